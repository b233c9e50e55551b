-- Problems of typed texts.
use Rattle.std.specs.Prelude.{All}
use Rattle.std.proofs.Common.{◌≡◌, ◌⊎◌, inl, inr, ℕ, ◌<◌, ◌≤◌, List, [], ◌∷◌, length, map, Some, None, Result, Ok, Err, refl, sym, ap, subst, ◌∙◌}
use Rattle.lq_types_infer.specs.Annotation.Whole as annotated
use Rattle.lq_text_front.specs.Bytes.Stages.{Bound, Bytes}
use Rattle.lq_text_front.specs.Bytes.Views.{IsBy, IsOf}
use Rattle.lq_text_front.specs.declared.bytes.error.Refusing.{Refusing}
use Rattle.lq_text_front.specs.declared.bytes.error.Refusing.TheVariants as refusing
use Rattle.lq_refined_rules.specs.Checks.Listing as listing
use Rattle.lq_refined_substitution.specs.Implications.Views.{implications_of}
use Rattle.lq_refined_instances.specs.Instances.{all_instances_of, total_count}
use Rattle.lq_refined_instances.specs.Views.{instances_view, measure_name}
use Rattle.lq_meaning_normalize.specs.Normalize.Made.{normal_view}
use Rattle.lq_generate_reading.specs.Notes.Noted.{annotation_of}
use Rattle.lq_refined_templates.specs.Points.Annotation.{Annotation}
use Rattle.lq_refined_templates.specs.Programs.BlockView.{program_view}
use Rattle.lq_generate_problem.specs.Posed.{basis_for, read_of, templates_for, unknowns_for, HasTemplates}
use Rattle.lq_generate_problem.specs.Refusing.{IsRefused}
use Rattle.lq_generate_problem.specs.declared.error.ProblemError.{ProblemError}
use Rattle.lq_generate_problem.specs.declared.error.ProblemError.TheVariants as problem
use Rattle.lq_generate_problem.specs.declared.problem.Problem.{Problem}
use Rattle.lq_refined_subtyping.specs.Table.Whole.{count_of}
use Rattle.lq_text_refusal.specs.declared.refused.Refused.TheVariants.{Counted}
use Rattle.lq_text_walk.specs.Scoped.Signature.{DataTree}
use Rattle.lq_text_qualifiers.specs.Sorting.Sorted.{Measure, Qualifier}
use Rattle.lq_text_qualifiers.specs.Sorting.Views.{measure_view, qualifier_view}
use Rattle.lq_text_qualifiers.specs.declared.sorting.sorted.ScopedMeasure.{ScopedMeasure}
use Rattle.lq_refined_substitution.specs.Substitution.Views.{scopes_view}
use Rattle.lq_text_tree.specs.Items.{ItemTree}
use Rattle.lq_top_pose.specs.Stages.{ArePosed, Typed, basis_in, implications_in, instances_in, normal_in, problem_refusal, program_in, read_in, replacements_in, templates_in, unknowns_in}
use Rattle.lq_top_pose.specs.Views.{IsProblem, IsTypedView}
use Rattle.lq_top_pose.specs.declared.typing.TypedTexts.{TypedTexts}

-- what a problem is made of
pub record Parts : Type 0 where
  pub datatypes : List DataTree
  pub measures : List Measure
  pub annotation : Annotation
  pub items : List ItemTree
  pub qualifiers : List Qualifier

abbrev pub parts_of : TypedTexts → Parts
parts_of m =
    record {
      datatypes = (annotated.program_of m.noted.program.annotated).datatypes;
      measures = map measure_view m.measures.items;
      annotation = annotation_of m.noted;
      items = (normal_view m.normal).items;
      qualifiers = map qualifier_view m.qualifiers.items;
    }

abbrev pub parts_in : Typed → Parts
parts_in t =
    record {
      datatypes = (program_in t).datatypes;
      measures = t.bound.texts.measures;
      annotation = t.annotation;
      items = normal_in t;
      qualifiers = t.bound.texts.qualifiers;
    }

abbrev pub with_parts : List DataTree → List Measure → Annotation → List ItemTree → List Qualifier → Parts
with_parts ds ms n is qs = record { datatypes = ds; measures = ms; annotation = n; items = is; qualifiers = qs }

same_parts : (m : TypedTexts) (t : Typed) → IsTypedView m t → parts_of m ≡ parts_in t
same_parts m t v =
    let p = parts_of m in
    let q = parts_in t in
    ap (λ ds. with_parts ds p.measures p.annotation p.items p.qualifiers) (ap (λ s. s.datatypes) v.program)
    ∙ ap (λ ms. with_parts q.datatypes ms p.annotation p.items p.qualifiers) v.measures
    ∙ ap (λ n. with_parts q.datatypes q.measures n p.items p.qualifiers) v.annotation
    ∙ ap (λ is. with_parts q.datatypes q.measures q.annotation is p.qualifiers) v.normal
    ∙ ap (with_parts q.datatypes q.measures q.annotation q.items) v.qualifiers

-- names of measures as they stand in memory
same_names : (ms : List ScopedMeasure) → map measure_name ms ≡ map (λ m. m.name) (map measure_view ms)
same_names [] = refl
same_names (m ∷ ms) = ap (λ ns. m.name.0 ∷ ns) (same_names ms)

-- a problem over parts
pub record IsOver (p : Problem) (q : Parts) : Type 0 where
  pub program : program_view p.program.items ≡ read_of q.annotation q.items
  pub templates : HasTemplates p.types p.templates.items (templates_for q.datatypes q.measures q.annotation q.items)
  pub there : All (λ row. All (λ r. r < count_of p.types) row.items) p.templates.items
  pub scopes : scopes_view p.scopes ≡ (basis_for q.datatypes q.measures q.annotation q.items).setting.scopes
  pub instances : instances_view p.instances
      ≡ all_instances_of (map (λ m. m.name) q.measures) q.qualifiers (unknowns_for q.datatypes q.measures q.annotation q.items)
  pub implications : implications_of p.implications ≡ listing.implications_of (basis_for q.datatypes q.measures q.annotation q.items) [] (read_of q.annotation q.items)
  pub few_replacements : total_count q.qualifiers (unknowns_for q.datatypes q.measures q.annotation q.items) ≤ 262144
  pub few : length (listing.implications_of (basis_for q.datatypes q.measures q.annotation q.items) [] (read_of q.annotation q.items)) ≤ 262144

-- what is said of instances by the names of measures in memory
pub instances_over : (p : Problem) (q : Parts) (ms : List ScopedMeasure) → q.measures ≡ map measure_view ms
    → instances_view p.instances ≡ all_instances_of (map measure_name ms) q.qualifiers (unknowns_for q.datatypes q.measures q.annotation q.items)
    → instances_view p.instances ≡ all_instances_of (map (λ m. m.name) q.measures) q.qualifiers (unknowns_for q.datatypes q.measures q.annotation q.items)
instances_over p q ms seen is =
    is ∙ ap (λ ns. all_instances_of ns q.qualifiers (unknowns_for q.datatypes q.measures q.annotation q.items))
    (same_names ms ∙ ap (map (λ m. m.name)) (sym seen))

pub posed_there : (m : TypedTexts) (t : Typed) (p : Problem) → IsTypedView m t → IsOver p (parts_of m) → ArePosed t (Ok t) × IsProblem p t
posed_there m t p v over =
    let there = subst (IsOver p) (same_parts m t v) over in (
      (refl, there.few_replacements, there.few),
      record {
        program = there.program;
        templates = there.templates;
        there = there.there;
        scopes = there.scopes;
        instances = there.instances;
        implications = there.implications;
      },
    )

-- so many
abbrev pub IsRefusedOver : Parts → ProblemError → Type 0
IsRefusedOver q e =
    IsRefused q.qualifiers (unknowns_for q.datatypes q.measures q.annotation q.items)
    (listing.implications_of (basis_for q.datatypes q.measures q.annotation q.items) [] (read_of q.annotation q.items)) e

some_is : {A : Type 0} {x y : A} → Some x ≡ Some y → x ≡ y
some_is e = cc

-- a problem that is too large is refused for it
pub problem_due : (m : TypedTexts) (t : Typed) (e : ProblemError) (n : Refusing) → IsTypedView m t → IsRefusedOver (parts_of m) e
    → IsOf (problem_refusal e) n → IsBy (ArePosed t) n
problem_due m t e refusing.Memory v why is = tt
problem_due m t (problem.InstancesPast k) (refusing.Refused r) v why is =
    let there = subst (λ q. IsRefusedOver q (problem.InstancesPast k)) (same_parts m t v) why in
    inl (there.0, sym (some_is is) ∙ ap (Counted 15) there.1)
problem_due m t (problem.ImplicationsPast k) (refusing.Refused r) v why is =
    let there = subst (λ q. IsRefusedOver q (problem.ImplicationsPast k)) (same_parts m t v) why in
    inr (there.0, there.1, sym (some_is is) ∙ ap (Counted 16) there.2)
problem_due m t problem.Memory (refusing.Refused r) v why is = absurd (let wrong : None ≡ Some r = is in cc)
