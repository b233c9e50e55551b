-- The stages from three texts with their names bound to what is to be solved for them: the program's types, and the limits.
use Rattle.std.specs.Prelude.{◌≡◌, ◌⊎◌, ◌<◌, ◌≤◌, ℕ, List, [], length, map, Option, Some, None, Result, Ok, Err, codes}
use Rattle.lq_types_infer.specs.declared.annotation.errors.TypeError.{TypeError}
use Rattle.lq_types_infer.specs.declared.annotation.errors.TypeError.TheVariants as typing
use Rattle.lq_refined_rules.specs.Checks.Basis.{Basis}
use Rattle.lq_refined_rules.specs.Checks.Listing as listing
use Rattle.lq_refined_rules.specs.Checks.Tree.{Program}
use Rattle.lq_refined_instances.specs.Instances.{all_instances_of, told, total_count}
use Rattle.lq_base_names.specs.NameTable.{with_text}
use Rattle.lq_meaning_normal_form.specs.Outcomes.Flattening.{normal_of}
use Rattle.lq_text_parser.specs.Parse.Trees.{number_in}
use Rattle.lq_refined_types.specs.Parts.Constraint.{Constraint}
use Rattle.lq_refined_templates.specs.Points.Annotation.{Annotation}
use Rattle.lq_logic_predicates.specs.Formula.{Formula}
use Rattle.lq_refined_types.specs.Types.Refined.{Refineds}
use Rattle.lq_text_refusal.specs.Stages.{Then}
use Rattle.lq_text_refusal.specs.declared.refused.Refused.{Refused}
use Rattle.lq_text_refusal.specs.declared.refused.Refused.TheVariants.{At, Nodes, Counted}
use Rattle.lq_text_walk.specs.Scoped.Scoping.{Scoping, IsScoped}
use Rattle.lq_text_qualifiers.specs.Sorting.Sorted.{Measure, Qualifier}
use Rattle.lq_refined_types.specs.Subtyping.Implication.{Implication, constraint_of}
use Rattle.lq_refined_templates.specs.Templates.Scopes.{Unknown}
use Rattle.lq_text_tree.specs.Items.{ItemTree}
use Rattle.lq_types_rules.specs.Typings.Inference.{Answer, typed, ill_typed, weak, past, IsInference}
use Rattle.lq_text_front.specs.Bytes.Stages.{BindsTo, Bound, Bytes}
use Rattle.lq_sound_readiness.specs.Uniqueness.Annotated.{IsAnnotationOf}
use Rattle.lq_generate_problem.specs.declared.error.ProblemError.{ProblemError}
use Rattle.lq_generate_problem.specs.declared.error.ProblemError.TheVariants as problem
use Rattle.lq_generate_problem.specs.Posed.{basis_for, read_of, templates_for, unknowns_for}

-- ---- types

-- three texts with their names bound, and what is known of the program's nodes and names
pub record Typed : Type 0 where
  pub bound : Bound
  pub annotation : Annotation

abbrev pub typed_by : Bound → Annotation → Typed
typed_by b n = record { bound = b; annotation = n }

abbrev pub program_in : Typed → Scoping
program_in t = t.bound.texts.program

-- how a program is refused that has no types that are wanted
abbrev pub type_refusal : Answer → Option Refused
type_refusal (typed types) = None
type_refusal (ill_typed p) = Some (At 12 p)
type_refusal (weak p) = Some (At 13 p)
type_refusal (past p n) = Some (Nodes 14 p n)

-- how an error of types is refused
abbrev pub error_refusal : TypeError → Option Refused
error_refusal (typing.IllTyped p) = Some (At 12 p)
error_refusal (typing.WeakType p) = Some (At 13 p)
error_refusal (typing.TypePast p n) = Some (Nodes 14 p n)
error_refusal typing.Memory = None

-- the texts of all names, `v` among them, by which predicates speak of the value
abbrev pub names_in : Bound → List (List ℕ)
names_in b = with_text b.read.names (codes "v")

-- the number of that name
abbrev pub value_in : Bound → ℕ
value_in b = number_in (names_in b) (codes "v")

-- The program's principal annotation, where it has one that is wanted, or why it has none. It is scoped, as each text is whose names are bound.
abbrev pub AreTyped : Bound → Result Typed Refused → Type 0
AreTyped b (Ok t) =
    (t.bound ≡ b) × IsScoped b.texts.program × IsAnnotationOf b.texts.program t.annotation × (t.annotation.value ≡ value_in b)
AreTyped b (Err r) = IsScoped b.texts.program × ((a : Answer) × IsInference b.texts.program a × (type_refusal a ≡ Some r))

-- ---- what is to be solved

-- the program's normal form
abbrev pub normal_in : Typed → List ItemTree
normal_in t = normal_of (length (program_in t).sources) (program_in t).items

-- the same as the typing rules have it
abbrev pub read_in : Typed → Program
read_in t = read_of t.annotation (normal_in t)

-- what it is checked over: its templates, and the equations of the measures
abbrev pub basis_in : Typed → Basis
basis_in t = basis_for (program_in t).datatypes t.bound.texts.measures t.annotation (normal_in t)

abbrev pub templates_in : Typed → List Refineds
templates_in t = templates_for (program_in t).datatypes t.bound.texts.measures t.annotation (normal_in t)

abbrev pub unknowns_in : Typed → List Unknown
unknowns_in t = unknowns_for (program_in t).datatypes t.bound.texts.measures t.annotation (normal_in t)

-- the instances of each unknown, by the qualifiers
abbrev pub instances_in : Typed → List (List Formula)
instances_in t = all_instances_of (map (λ m. m.name) t.bound.texts.measures) t.bound.texts.qualifiers (unknowns_in t)

abbrev pub replacements_in : Typed → ℕ
replacements_in t = total_count t.bound.texts.qualifiers (unknowns_in t)

abbrev pub implications_in : Typed → List Implication
implications_in t = listing.implications_of (basis_in t) [] (read_in t)

abbrev pub constraints_in : Typed → List Constraint
constraints_in t = map constraint_of (implications_in t)

-- ---- limits

-- so many replacements of placeholders are refused, and so many implications
abbrev pub AreMany : ℕ → Type 0
AreMany n = 262144 < n

-- how a problem that is too large is refused
abbrev pub problem_refusal : ProblemError → Option Refused
problem_refusal (problem.InstancesPast n) = Some (Counted 15 n)
problem_refusal (problem.ImplicationsPast n) = Some (Counted 16 n)
problem_refusal problem.Memory = None

-- There are no more than 262,144 replacements and as many implications, or so many.
abbrev pub ArePosed : Typed → Result Typed Refused → Type 0
ArePosed t (Ok p) = (p ≡ t) × (replacements_in t ≤ 262144) × (length (implications_in t) ≤ 262144)
ArePosed t (Err r) =
    (AreMany (replacements_in t) × (r ≡ Counted 15 (told (replacements_in t))))
    ⊎ ((replacements_in t ≤ 262144) × AreMany (length (implications_in t)) × (r ≡ Counted 16 (told (length (implications_in t)))))

-- three texts with their types, or the first reason to refuse them
abbrev pub TypesTo : Bytes → Result Typed Refused → Type 0
TypesTo = Then BindsTo AreTyped

-- what is to be solved for three texts, or the first reason to refuse them
abbrev pub PosesTo : Bytes → Result Typed Refused → Type 0
PosesTo = Then TypesTo ArePosed
