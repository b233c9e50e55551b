-- What is read of a typed text is plain, and the text is safe where its implications are valid.
use Rattle.std.specs.Prelude.{List, []}
use Rattle.lq_types_infer.specs.Annotation.Whole.{program_of}
use Rattle.lq_sound_scope.specs.NameCounts.Short.{IsOfShortText}
use Rattle.lq_sound_forms.specs.Fields.Fields.{KnowsMeasures}
use Rattle.lq_sound_values.specs.Inhabitants.Datatypes.{AreCovariant}
use Rattle.lq_sound_values.specs.Inhabitants.Truth.{Objects}
use Rattle.lq_sound_scope.specs.Scopes.Over.{AreSorted, unknown_in}
use Rattle.lq_types_infer.specs.declared.instantiation.instantiated.Instantiated.{Instantiated}
use Rattle.lq_generate_reading.specs.Notes.Known.{Knows}
use Rattle.lq_refined_types.specs.Parts.Assignment.{Assignment}
use Rattle.lq_sound_programs.specs.Plain.Plain.{IsPlainProgram}
use Rattle.lq_refined_templates.specs.Points.Annotation.{Annotation}
use Rattle.lq_generate_problem.specs.Posed.{read_of, unknowns_for}
use Rattle.lq_sound_programs.specs.Safety.Programs.{no_symbols}
use Rattle.lq_text_walk.specs.Scoped.Scoping.{Scoping}
use Rattle.lq_text_walk.specs.Scoped.Signature.{signature_in}
use Rattle.lq_text_qualifiers.specs.Sorting.Sorted.{Measure}
use Rattle.lq_sound_texts.specs.Measures.Laws.{AreMeasuresOf}
use Rattle.lq_sound_texts.specs.TypedTexts.Safety.{basis_in, normal_in, IsSafe, IsSolvedBy}

-- the assignment's instances speak of what the program's unknowns may speak of, at its sorts
abbrev pub IsSortedIn : Scoping → List Measure → Annotation → Assignment → Type 0
IsSortedIn s ms n A = AreSorted (unknown_in (unknowns_for s.datatypes ms n (normal_in s))) A

-- What is read of a typed program of a text of at most `TEXT_LIMIT` bytes is merely plain, under such an assignment, with the measures of a text
-- of which nothing is complained, and over objects that know them.
abbrev pub TextsArePlain : Type 0
TextsArePlain = (i : Instantiated) (n : Annotation) (ms : List Measure) (A : Assignment) (O : Objects) → let s = program_of i.annotated in IsOfShortText s
    → Knows i n → IsSortedIn s ms n A → AreMeasuresOf s.datatypes ms → KnowsMeasures (basis_in s ms n) O
    → ∥ IsPlainProgram (basis_in s ms n) A O no_symbols [] (read_of n (normal_in s)) ∥₁

-- It is safe where the assignment makes all its implications valid, and in its type definitions no parameter stands left of an arrow or under
-- `array`.
abbrev pub TextsAreSafe : Type 0
TextsAreSafe = (i : Instantiated) (n : Annotation) (ms : List Measure) (A : Assignment) → let s = program_of i.annotated in IsOfShortText s → Knows i n
    → IsSortedIn s ms n A → AreMeasuresOf s.datatypes ms → AreCovariant (signature_in s.datatypes) → IsSolvedBy s ms n A → IsSafe s.items
