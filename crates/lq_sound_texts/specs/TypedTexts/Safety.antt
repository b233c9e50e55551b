-- A typed text whose implications are valid is safe.
use Rattle.std.specs.Prelude.{List, [], length}
use Rattle.lq_types_infer.specs.Annotation.Whole.{program_of}
use Rattle.lq_refined_rules.specs.Checks.Basis.{Basis}
use Rattle.lq_refined_rules.specs.Checks.Listing.{implications_of}
use Rattle.lq_sound_values.specs.Inhabitants.Datatypes.{AreCovariant}
use Rattle.lq_sound_values.specs.Inhabitants.Truth.{Objects}
use Rattle.lq_types_infer.specs.declared.instantiation.instantiated.Instantiated.{Instantiated}
use Rattle.lq_meaning_steps.specs.Model.FromTree.{items_of}
use Rattle.lq_meaning_steps.specs.Model.Program as model
use Rattle.lq_meaning_normal_form.specs.Outcomes.Flattening.{normal_of}
use Rattle.lq_generate_reading.specs.Notes.Known.{Knows}
use Rattle.lq_refined_types.specs.Parts.Assignment.{Assignment, IsScoped}
use Rattle.lq_sound_programs.specs.Plain.Plain.{IsPlainProgram}
use Rattle.lq_refined_templates.specs.Points.Annotation.{Annotation}
use Rattle.lq_generate_problem.specs.Posed.{basis_for, read_of}
use Rattle.lq_sound_forms.specs.Pures.Pures.{KnowsLengths}
use Rattle.lq_sound_programs.specs.Safety.Programs.{no_symbols}
use Rattle.lq_text_walk.specs.Scoped.Scoping.{Scoping}
use Rattle.lq_text_walk.specs.Scoped.Signature.{signature_in}
use Rattle.lq_text_qualifiers.specs.Sorting.Sorted.{Measure}
use Rattle.lq_refined_types.specs.Subtyping.Implication.{AllHold}
use Rattle.lq_sound_readiness.specs.TextPrograms.Laws.{IsOfText}
use Rattle.lq_text_tree.specs.Items.{ItemTree}

-- On every input, no number of steps of these definitions meets a fault, and a step is always there until none is left.
abbrev pub IsSafe : List ItemTree → Type 0
IsSafe trees = model.IsSafe (items_of trees)

-- the definitions of a program in normal form
abbrev pub normal_in : Scoping → List ItemTree
normal_in s = normal_of (length s.sources) s.items

-- what a program is checked over by an annotation, with these measures
abbrev pub basis_in : Scoping → List Measure → Annotation → Basis
basis_in s ms n = basis_for s.datatypes ms n (normal_in s)

-- The assignment makes all implications of the program valid, and its instances speak of names of their unknowns' scopes alone.
pub record IsSolvedBy (s : Scoping) (ms : List Measure) (n : Annotation) (A : Assignment) : Type 0 where
  pub holds : AllHold A (implications_of (basis_in s ms n) [] (read_of n (normal_in s)))
  pub scoped : IsScoped (basis_in s ms n).setting.scopes A

-- A typed program of a text with such an assignment is safe, where in its type definitions no parameter stands left of an arrow or under
-- `array`, and what is read of it is plain, with numbers of objects that know the lengths of arrays.
abbrev pub CheckedTextsAreSafe : Type 0
CheckedTextsAreSafe = (i : Instantiated) (n : Annotation) (ms : List Measure) (A : Assignment) (O : Objects)
    → let s = program_of i.annotated in IsOfText s → Knows i n → AreCovariant (signature_in s.datatypes) → IsSolvedBy s ms n A → KnowsLengths O
    → IsPlainProgram (basis_in s ms n) A O no_symbols [] (read_of n (normal_in s)) → IsSafe s.items
