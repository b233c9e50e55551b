-- The laws from valid implications to a safe program, put together.
use Rattle.std.proofs.Common.{List, [], length, refl, sym, subst}
use Rattle.std.proofs.Math.Logic.{∥∥₁_elim}
use Rattle.lq_types_infer.specs.Annotation.Whole.{program_of, types_of}
use Rattle.lq_meaning_normal_form.specs.Binders.Apart.{ScopedAreApart}
use Rattle.lq_refined_rules.specs.Checks.Basis.{Basis}
use Rattle.lq_refined_rules.specs.Checks.Checks.{Checks}
use Rattle.lq_refined_rules.specs.Checks.Laws.{ListIsChecks}
use Rattle.lq_refined_rules.specs.Checks.Tree.{Program}
use Rattle.lq_refined_rules.specs.Checks.Typing.{HasProgram}
use Rattle.lq_sound_values.specs.Inhabitants.Datatypes.{AreCovariant}
use Rattle.lq_sound_values.specs.Inhabitants.Truth.{Objects}
use Rattle.lq_types_infer.specs.declared.instantiation.instantiated.Instantiated.{Instantiated}
use Rattle.lq_meaning_steps.specs.Model.FromTree.{items_of}
use Rattle.lq_meaning_steps.specs.Model.Outcomes.{SafeWithoutFaults}
use Rattle.lq_meaning_steps.specs.Model.Program as model
use Rattle.lq_meaning_normal_form.specs.Outcomes.Apart.{NormalFormKeeps}
use Rattle.lq_sound_readiness.specs.NormalTexts.Laws.{AnnotatedProgramsHaveTypes}
use Rattle.lq_meaning_normal_form.specs.Types.Programs.{HaveTypes}
use Rattle.lq_generate_reading.specs.Notes.Known.{Knows}
use Rattle.lq_refined_types.specs.Parts.Assignment.{Assignment}
use Rattle.lq_sound_programs.specs.Plain.Plain.{IsPlainProgram, PlainProgramsAreSafe}
use Rattle.lq_refined_templates.specs.Points.Annotation.{Annotation}
use Rattle.lq_refined_templates.specs.Points.Laws.{TemplatesAreOfPoints}
use Rattle.lq_refined_templates.specs.Points.Point.{Point}
use Rattle.lq_refined_templates.specs.Points.Reading as reading
use Rattle.lq_refined_templates.specs.Points.Templates.{Datatypes, basis_of, points_of}
use Rattle.lq_generate_problem.specs.Posed.{datatypes_of, read_of}
use Rattle.lq_sound_forms.specs.Pures.Pures.{KnowsLengths}
use Rattle.lq_sound_readiness.specs.Reading.Laws.{ReadIsTyped, ReadMeansTheSame}
use Rattle.lq_types_rules.specs.Equations.Rows.{annotation_of}
use Rattle.lq_sound_programs.specs.Safety.Programs.{no_symbols}
use Rattle.lq_text_walk.specs.Scoped.Scoping.{Scoping}
use Rattle.lq_text_walk.specs.Scoped.Signature.{signature_in}
use Rattle.lq_text_qualifiers.specs.Sorting.Sorted.{Measure}
use Rattle.lq_sound_readiness.specs.TextPrograms.Laws.{IsOfText, IsReadTyped, NotedTextsAreReady, NotedTextsAreTyped}
use Rattle.lq_text_tree.specs.Items.{ItemTree}
use Rattle.lq_text_tree.specs.TypingRules as rules
use Rattle.lq_meaning_steps.specs.Progress.Programs.{AnnotatedIsNeverStuck}
use Rattle.lq_types_rules.specs.Typings.Inference.{typed, IsInference}
use Rattle.lq_types_rules.specs.Typings.Principal.{node_count}
use Rattle.lq_sound_texts.specs.TypedTexts.Safety.{basis_in, normal_in, CheckedTextsAreSafe, IsSafe, IsSolvedBy}
use Rattle.lq_sound_texts.proofs.TypedTextsLemmas.Outcomes.{never_stuck, safe_by_outcomes, safe_prop}

pub record Laws : Type 1 where
  pub never : AnnotatedIsNeverStuck
  pub have_types : AnnotatedProgramsHaveTypes
  pub apart : ScopedAreApart
  pub keeps : NormalFormKeeps
  pub without : SafeWithoutFaults
  pub typed : NotedTextsAreTyped
  pub ready : NotedTextsAreReady
  pub list : ListIsChecks
  pub templates : TemplatesAreOfPoints
  pub simple : ReadIsTyped
  pub means : ReadMeansTheSame
  pub plain : PlainProgramsAreSafe

module _ (L : Laws) (i : Instantiated) (n : Annotation) (ms : List Measure) (A : Assignment) (O : Objects) (t : IsOfText (program_of i.annotated))
    (knows : Knows i n) (covariant : AreCovariant (signature_in (program_of i.annotated).datatypes))
    (solved : IsSolvedBy (program_of i.annotated) ms n A) (lengths : KnowsLengths O) where
  abbrev s : Scoping
  s = program_of i.annotated

  abbrev is : List ItemTree
  is = normal_in s

  abbrev D : Datatypes
  D = datatypes_of s.datatypes ms

  abbrev points : List Point
  points = (reading.program_of n is).points

  abbrev read : Program
  read = read_of n is

  abbrev P : Basis
  P = basis_in s ms n

  checks : Checks P A [] read
  checks = (L.list P A read (L.ready i n D t refl knows)).0 solved.holds

  -- ---- what is read is safe, and so is the normal form

  normal_safe : IsReadTyped (signature_in s.datatypes) n is → IsPlainProgram P A O no_symbols [] read → IsSafe is
  normal_safe simple plain =
      subst model.IsSafe (L.means n is simple.normal)
      (L.plain P A O (record { covariant = covariant; scoped = solved.scoped }) lengths (points_of points) (L.templates D points) read
      (subst (λ r. HasProgram (basis_of D r.points) (points_of r.points) [] r.read) simple.same
      (L.simple D simple.by is simple.normal simple.obeys simple.uses))
      checks plain)

  -- ---- and so is the program

  have_types : IsInference s (typed (types_of i.annotated)) → HaveTypes s.items
  have_types inference =
      subst (λ (r : Scoping). (m : rules.Annotation) → rules.ItemsAre (signature_in r.datatypes) m [] r.items → HaveTypes r.items) (sym t.bound)
      (L.have_types t.known t.trees) (annotation_of (node_count s) (types_of i.annotated)) inference.0.obeys

  source_safe : IsInference s (typed (types_of i.annotated)) → IsSafe is → IsSafe s.items
  source_safe inference safe =
      let never = never_stuck L.never s.items (have_types inference) in
      let apart = L.apart s i.annotated.program.scoped in
      safe_by_outcomes L.without (items_of s.items) (items_of is) never (L.keeps (length s.sources) s.items apart.0 apart.1 never) safe

pub checked_safe : Laws → CheckedTextsAreSafe
checked_safe L i n ms A O t knows covariant solved lengths plain =
    let prop = safe_prop (items_of (program_of i.annotated).items) in
    ∥∥₁_elim i.annotated.answer prop
    (λ inference. ∥∥₁_elim (L.typed i n t knows) prop
    (λ simple. source_safe L i n ms A O t knows covariant solved lengths inference
    (normal_safe L i n ms A O t knows covariant solved lengths simple plain)))
