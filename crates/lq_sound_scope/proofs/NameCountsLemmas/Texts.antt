-- What is read of the normal form of a typed program of a text binds few names.
use Rattle.std.proofs.Common.{◌≤◌, ◌<◌, ◌*◌, ◌^◌, ℕ, List, [], ◌∷◌, length, sym, subst, arith}
use Rattle.std.proofs.Math.Logic.{∥∥₁_elim}
use Rattle.std.proofs.Props.{props}
use Rattle.std.specs.Coded.{×_prop, Unit-prop}
use Rattle.lq_types_infer.specs.Annotation.Whole.{program_of}
use Rattle.lq_meaning_normal_form.specs.Binders.Counting.{times, counted_items}
use Rattle.lq_text_lexer.specs.Reading.{FewTokens}
use Rattle.lq_text_lexer.specs.declared.limits.TheConstants.{TEXT_LIMIT}
use Rattle.lq_base_names.specs.declared.place.TextKind.TheVariants.{Program}
use Rattle.lq_meaning_normal_form.specs.Outcomes.Flattening.{normal_of}
use Rattle.lq_sound_readiness.specs.NormalTexts.Laws.{ParsedProgramsAreWritten}
use Rattle.lq_meaning_normal_form.specs.Types.Laws.{ScopedProgramsArePlain}
use Rattle.lq_meaning_normal_form.specs.Types.Plain.{AreBelow, ItemsArePlain}
use Rattle.lq_meaning_normal_form.specs.Types.Programs.{next_items}
use Rattle.lq_meaning_normal_form.specs.Types.Written.{ItemsAreWritten}
use Rattle.lq_meaning_normalize.specs.Normalize.Laws.{ProgramsAreOnePass}
use Rattle.lq_refined_templates.specs.Points.Annotation.{Annotation}
use Rattle.lq_sound_readiness.specs.Reading.Normal.{AreNormal}
use Rattle.lq_sound_readiness.specs.Binders.Laws.{ReadBindsTheSame}
use Rattle.lq_sound_scope.specs.Scalars.Scalar.{HaveTwins}
use Rattle.lq_text_walk.specs.Scoped.Scoping.{Scoping, IsScoped}
use Rattle.lq_sound_readiness.specs.TextPrograms.Laws.{IsOfText, NotedTextsAreTyped}
use Rattle.lq_text_tree.specs.Items.{ItemTree}
use Rattle.lq_sound_scope.specs.NameCounts.Laws.{bound_in, NormalFormsBindBelow, ParsedProgramsMakeFew, ShortTextsHaveTwins}
use Rattle.lq_sound_scope.proofs.NameCountsLemmas.Below.{all-below}

-- that names have twins is a proposition
twins-prop : (xs : List ℕ) → IsProp (HaveTwins xs)
twins-prop [] = Unit-prop
twins-prop (x ∷ xs) = ×_prop (Prim.hlevel props) (twins-prop xs)

twins-of : (xs : List ℕ) → AreBelow (2 ^ 31) xs → HaveTwins xs
twins-of [] h = tt
twins-of (x ∷ xs) h = (h.0, twins-of xs h.1)

-- so few tokens make few enough names
few-enough : (m n : ℕ) → m ≤ 24 * n → n ≤ TEXT_LIMIT → m ≤ 2 ^ 31
few-enough m n few short = omega (arith, few, short)

pub record Laws : Type 0 where
  pub below : NormalFormsBindBelow
  pub few : ParsedProgramsMakeFew
  pub reads : ReadBindsTheSame
  pub one_pass : ProgramsAreOnePass
  pub written : ParsedProgramsAreWritten
  pub plain : ScopedProgramsArePlain

module _ (L : Laws) (s : Scoping) (scoped : IsScoped s) (t : IsOfText s) (short : length t.tokens ≤ TEXT_LIMIT) where
  abbrev first : ℕ
  first = length s.sources

  abbrev is : List ItemTree
  is = normal_of first s.items

  abbrev last : ℕ
  last = next_items first s.items

  items_plain : ItemsArePlain first s.items
  items_plain =
      L.plain s scoped (subst (λ (r : Scoping). ItemsAreWritten r.items) (sym t.bound) (L.written t.text t.names t.tokens t.trees t.read t.known))

  last_few : last ≤ 24 * length t.tokens
  last_few =
      subst (λ (r : Scoping). next_items (length r.sources) r.items ≤ 24 * length t.tokens) (sym t.bound)
      (L.few t.text t.names t.tokens t.trees t.read t.known)

  bound_below : (n : Annotation) → AreNormal is → (x : ℕ) → 1 ≤ times x (bound_in s n) → x < last
  bound_below n normal x some =
      L.below s scoped items_plain x
      (subst (λ js. 1 ≤ counted_items x js) (L.one_pass first s.items) (subst (λ (m : ℕ). 1 ≤ m) (L.reads n is normal x) some))

  have_twins : (n : Annotation) → AreNormal is → HaveTwins (bound_in s n)
  have_twins n normal =
      let xs = bound_in s n in
      twins-of xs (all-below last (2 ^ 31) (few-enough last (length t.tokens) last_few short) xs (bound_below n normal))

pub short-twins : Laws → NotedTextsAreTyped → FewTokens → ShortTextsHaveTwins
short-twins L typed few i n o knows =
    let s = program_of i.annotated in let t = o.of_text in let count = few Program t.text t.tokens o.lexed in let short = o.short in
    ∥∥₁_elim (typed i n t knows) (twins-prop (bound_in s n))
    (λ r. have_twins L s i.annotated.program.scoped t (omega (arith, count, short)) n r.normal)
