-- What is read of a typed text is posed, so that its obligations and implications speak of names that their environments bind, at their sorts.
use Rattle.std.specs.Prelude.{◌≡◌, ℕ, List, [], All}
use Rattle.lq_types_infer.specs.Annotation.Whole.{program_of}
use Rattle.lq_sound_adequacy.specs.Subtypings.Bound.{AreBound, IsBoundObligation, NamesDiffer}
use Rattle.lq_sound_adequacy.specs.Subtypings.Laws.{IsPosed}
use Rattle.lq_refined_rules.specs.Checks.Listing.{implications_of}
use Rattle.lq_refined_rules.specs.Checks.Typing.{Points}
use Rattle.lq_sound_scope.specs.NameCounts.Short.{IsOfShortText}
use Rattle.lq_sound_scope.specs.Scopes.Over.{unknown_in}
use Rattle.lq_types_infer.specs.declared.instantiation.instantiated.Instantiated.{Instantiated}
use Rattle.lq_generate_reading.specs.Notes.Known.{Knows}
use Rattle.lq_refined_rules.specs.Obligations.Obligation.{Obligation, all_implications}
use Rattle.lq_refined_rules.specs.Obligations.Obligations.{obligations_of}
use Rattle.lq_refined_templates.specs.Points.Annotation.{Annotation}
use Rattle.lq_refined_templates.specs.Points.Reading as reading
use Rattle.lq_refined_templates.specs.Points.Templates.{points_of}
use Rattle.lq_generate_problem.specs.Posed.{read_of, unknowns_for}
use Rattle.lq_text_walk.specs.Scoped.Scoping.{Scoping}
use Rattle.lq_text_qualifiers.specs.Sorting.Sorted.{Measure}
use Rattle.lq_sound_adequacy.specs.Implications.Sorted.{AreImplicationsSorted}
use Rattle.lq_refined_templates.specs.Templates.Scopes.{Unknown}
use Rattle.lq_sound_texts.specs.Measures.Laws.{AreMeasuresOf}
use Rattle.lq_sound_texts.specs.TypedTexts.Safety.{basis_in, normal_in}

-- the program's unknowns by their numbers
abbrev pub unknowns_in : Scoping → List Measure → Annotation → ℕ → Unknown
unknowns_in s ms n = unknown_in (unknowns_for s.datatypes ms n (normal_in s))

-- the simple types of its points
abbrev pub points_in : Scoping → Annotation → Points
points_in s n = points_of (reading.program_of n (normal_in s)).points

-- what it is asked for
abbrev pub obligations_in : Scoping → List Measure → Annotation → List Obligation
obligations_in s ms n = obligations_of (basis_in s ms n) [] (read_of n (normal_in s))

-- What is read of a typed program of a text of at most `TEXT_LIMIT` bytes is merely posed as `lq_sound_adequacy::subtypings` asks, with the measures of a text of
-- which nothing is complained.
abbrev pub TextsArePosed : Type 0
TextsArePosed = (i : Instantiated) (n : Annotation) (ms : List Measure) → let s = program_of i.annotated in IsOfShortText s → Knows i n
    → AreMeasuresOf s.datatypes ms → ∥ IsPosed (basis_in s ms n) (unknowns_in s ms n) (points_in s n) (read_of n (normal_in s)) ∥₁

-- Each of its obligations is in an environment over its own names, and what is asked there speaks of these.
abbrev pub TextObligationsAreBound : Type 0
TextObligationsAreBound = (i : Instantiated) (n : Annotation) (ms : List Measure) → let s = program_of i.annotated in IsOfShortText s → Knows i n
    → AreMeasuresOf s.datatypes ms → ∥ All (IsBoundObligation (basis_in s ms n) (unknowns_in s ms n)) (obligations_in s ms n) ∥₁

-- Its implications are those of its obligations, and each speaks of names that its environment binds, and of v at one sort.
abbrev pub TextImplicationsAreBound : Type 0
TextImplicationsAreBound = (i : Instantiated) (n : Annotation) (ms : List Measure) → let s = program_of i.annotated in IsOfShortText s → Knows i n
    → AreMeasuresOf s.datatypes ms
    → let P = basis_in s ms n in let os = obligations_in s ms n in
    (implications_of P [] (read_of n (normal_in s)) ≡ all_implications P os) × ∥ All (AreBound P (unknowns_in s ms n)) os ∥₁

-- In the environment of each of its obligations no two names are one, and none is a twin, whatever measures there are.
abbrev pub TextEnvironmentsDiffer : Type 0
TextEnvironmentsDiffer = (i : Instantiated) (n : Annotation) (ms : List Measure) → let s = program_of i.annotated in IsOfShortText s → Knows i n
    → All (λ (o : Obligation). NamesDiffer o.context) (obligations_in s ms n)

-- Each of its implications is merely well sorted in its environment: it speaks of names that this binds, each at the kind of its type, and of v at one
-- kind, and an object is a variable that is measured or compared as a whole.
abbrev pub TextImplicationsAreSorted : Type 0
TextImplicationsAreSorted = (i : Instantiated) (n : Annotation) (ms : List Measure) → let s = program_of i.annotated in IsOfShortText s → Knows i n
    → AreMeasuresOf s.datatypes ms → ∥ All (AreImplicationsSorted (basis_in s ms n) (unknowns_in s ms n)) (obligations_in s ms n) ∥₁
