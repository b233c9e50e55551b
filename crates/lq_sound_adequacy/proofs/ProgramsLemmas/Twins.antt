-- Kinds of names, and of their twins.
use Rattle.std.proofs.Common.{◌≡◌, ◌∙◌, ℕ, ◌+◌, ◌-◌, ◌^◌, ltb, arith, Bool, true, false, cond, List, [], ◌∷◌, refl, sym, ap, subst}
use Rattle.std.proofs.lemmas.Bool.{lt-ltb, le-ltb}
use Rattle.lq_sound_scope.specs.Scopes.Over.{kind_of}
use Rattle.lq_refined_templates.specs.Points.Annotation.{Annotation}
use Rattle.lq_refined_types.specs.Types.Refined.{Kind}
use Rattle.lq_sound_scope.specs.Scalars.Scalar.{HaveTwins}
use Rattle.lq_text_qualifiers.specs.Faults.Shapes.{shape_of}
use Rattle.lq_sound_adequacy.specs.Obligations.Kinds.{NameKind}
use Rattle.lq_sound_adequacy.specs.Obligations.Sorted.{TwinsAlike, is_kind, sorts_by}
use Rattle.lq_sound_adequacy.proofs.ObligationsLemmas.Pures.{kind_own}
use Rattle.lq_sound_adequacy.specs.Templates.Laws.{EachName, HaveNameKinds}
use Rattle.lq_sound_adequacy.specs.Programs.Kinds.{is_small, kinds_by, simple_kind}

module _ (L : ℕ) where
  abbrev twin_at : ℕ → ℕ
  twin_at x = cond (ltb x L) (x + L) x

  abbrev untwinned_at : ℕ → ℕ
  untwinned_at x = cond (ltb x L) x (x - L)

  back_at : (x : ℕ) → (x + L) - L ≡ x
  back_at x = omega arith

  big_at : (x : ℕ) → ltb (x + L) L ≡ false
  big_at x = le-ltb (x + L) L (omega arith)

  alike_at : (x : ℕ) → untwinned_at (twin_at x) ≡ untwinned_at x
  alike_at x = by (ltb x L) refl
    where
      by : (b : Bool) → ltb x L ≡ b → untwinned_at (twin_at x) ≡ untwinned_at x
      by true e =
          ap untwinned_at (ap (λ (b : Bool). cond b (x + L) x) e) ∙ ap (λ (b : Bool). cond b (x + L) ((x + L) - L)) (big_at x) ∙ back_at x
          ∙ sym (ap (λ (b : Bool). cond b x (x - L)) e)
      by false e = ap untwinned_at (ap (λ (b : Bool). cond b (x + L) x) e)

-- a twin has the kind of its name
pub twins_alike : (n : Annotation) → TwinsAlike (kinds_by n)
twins_alike n x = ap (λ (z : ℕ). simple_kind (n.names z)) (alike_at (2 ^ 31) x)

-- a name below 2^31 has the kind of its type
pub small_kind : (n : Annotation) (x : ℕ) → is_small x ≡ true → kinds_by n x ≡ simple_kind (n.names x)
small_kind n x h = ap (λ (b : Bool). simple_kind (n.names (cond b x (x - 2 ^ 31)))) h

pub name_kinds : (n : Annotation) → HaveNameKinds n is_small (sorts_by (kinds_by n))
name_kinds n x h =
    let k : Kind = kind_of (shape_of (n.names x)) in
    subst (λ (z : NameKind). is_kind z.0 k ≡ true) (sym (small_kind n x h)) (kind_own k)

pub small_names : (xs : List ℕ) → HaveTwins xs → EachName is_small xs
small_names [] h = tt
small_names (x ∷ xs) h = (lt-ltb x (2 ^ 31) h.0, small_names xs h.1)
