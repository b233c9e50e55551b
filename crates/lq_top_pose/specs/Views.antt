-- What is to be solved, as it stands in memory.
use Rattle.std.specs.Prelude.{◌≡◌, ◌<◌, List, [], All, map}
use Rattle.lq_types_infer.specs.Annotation.Whole as annotated
use Rattle.lq_refined_rules.specs.Checks.Ready.{IsReady}
use Rattle.lq_generate_fresh.specs.Fresh.Defined.{ConstructorsDiffer}
use Rattle.lq_refined_substitution.specs.Implications.Views.{implications_of}
use Rattle.lq_refined_instances.specs.Views.{instances_view}
use Rattle.lq_meaning_normalize.specs.Normalize.Made.{normal_view}
use Rattle.lq_generate_reading.specs.Notes.Noted.{annotation_of}
use Rattle.lq_refined_templates.specs.Programs.BlockView.{program_view}
use Rattle.lq_generate_problem.specs.Posed.{basis_for, read_of, HasTemplates}
use Rattle.lq_generate_problem.specs.declared.problem.Problem.{Problem}
use Rattle.lq_refined_subtyping.specs.Table.Whole.{count_of}
use Rattle.lq_text_qualifiers.specs.Sorting.Sorted.{Measure}
use Rattle.lq_text_qualifiers.specs.Sorting.Views.{measure_view, qualifier_view}
use Rattle.lq_refined_substitution.specs.Substitution.Views.{scopes_view}
use Rattle.lq_top_pose.specs.Stages.{Typed, basis_in, implications_in, instances_in, names_in, normal_in, program_in, read_in, templates_in}
use Rattle.lq_top_pose.specs.declared.posing.PosedTexts.{PosedTexts}
use Rattle.lq_top_pose.specs.declared.typing.TypedTexts.{TypedTexts}

-- a typed program in memory, with its normal form, and the other texts with their names bound
pub record IsTypedView (m : TypedTexts) (t : Typed) : Type 0 where
  pub names : m.names ≡ names_in t.bound
  pub program : annotated.program_of m.noted.program.annotated ≡ program_in t
  pub annotation : annotation_of m.noted ≡ t.annotation
  pub normal : (normal_view m.normal).items ≡ normal_in t
  pub measures : map measure_view m.measures.items ≡ t.bound.texts.measures
  pub qualifiers : map qualifier_view m.qualifiers.items ≡ t.bound.texts.qualifiers

-- what is asked of typed texts so that they can be posed
pub record IsPosable (m : TypedTexts) : Type 0 where
  pub differ : ConstructorsDiffer (annotated.program_of m.noted.program.annotated).datatypes
  pub ready : (ms : List Measure)
      → IsReady (basis_for (annotated.program_of m.noted.program.annotated).datatypes ms (annotation_of m.noted) (normal_view m.normal).items) []
      (read_of (annotation_of m.noted) (normal_view m.normal).items)

-- the problem of a typed program in memory
pub record IsProblem (p : Problem) (t : Typed) : Type 0 where
  pub program : program_view p.program.items ≡ read_in t
  pub templates : HasTemplates p.types p.templates.items (templates_in t)
  pub there : All (λ row. All (λ r. r < count_of p.types) row.items) p.templates.items
  pub scopes : scopes_view p.scopes ≡ (basis_in t).setting.scopes
  pub instances : instances_view p.instances ≡ instances_in t
  pub implications : implications_of p.implications ≡ implications_in t

pub record IsPosedView (m : PosedTexts) (t : Typed) : Type 0 where
  pub names : m.texts.names ≡ names_in t.bound
  pub program : annotated.program_of m.texts.noted.program.annotated ≡ program_in t
  pub annotation : annotation_of m.texts.noted ≡ t.annotation
  pub normal : (normal_view m.texts.normal).items ≡ normal_in t
  pub problem : IsProblem m.problem t
