-- A name that is used at types for its type's variables is one that an earlier item defined.
use Rattle.std.specs.Prelude.{◌≡◌, ℕ, ◌≤◌, false, List, length, None}
use Rattle.lq_text_tree.specs.Items.{ItemTree}
use Rattle.lq_types_infer.specs.Annotation.Whole.{program_of}
use Rattle.lq_types_infer.specs.declared.instantiation.instantiated.Instantiated.{Instantiated}
use Rattle.lq_meaning_normal_form.specs.Outcomes.Flattening.{normal_of}
use Rattle.lq_meaning_normal_form.specs.Types.Plain.{ItemsArePlain}
use Rattle.lq_meaning_normal_form.specs.Types.Programs.{normal_items}
use Rattle.lq_sound_values.specs.Inclusion.Symbols.{Symbols}
use Rattle.lq_refined_templates.specs.Points.Annotation.{Annotation}
use Rattle.lq_refined_templates.specs.Points.Reading as reading
use Rattle.lq_generate_reading.specs.Notes.Known.{Knows}
use Rattle.lq_sound_readiness.specs.TextPrograms.Laws.{IsOfText}
use Rattle.lq_sound_scope.specs.Scalars.Uses.{ProgramUsesBefore}
use Rattle.lq_sound_scope.specs.GeneralUses.Trees.{ItemsUseBefore}

-- In a typed program an annotation that knows its types has types for variables at uses of names that earlier items defined alone.
abbrev pub NotedProgramsUseBefore : Type 0
NotedProgramsUseBefore = (i : Instantiated) (n : Annotation) → Knows i n → ItemsUseBefore n (λ y. false) (program_of i.annotated).items

-- Where made names have no text, so it is in the normal form of a plain program in which it is so.
abbrev pub NormalFormsUseBefore : Type 0
NormalFormsUseBefore = (n : Annotation) (G : Symbols) (k : ℕ) (is : List ItemTree) → ItemsArePlain k is → ((x : ℕ) → k ≤ x → n.text x ≡ None)
    → ItemsUseBefore n G is → ItemsUseBefore n G (normal_items k is)

-- So it is in what is read of a program in which it is so.
abbrev pub ReadProgramsUseBefore : Type 0
ReadProgramsUseBefore = (n : Annotation) (G : Symbols) (is : List ItemTree) → ItemsUseBefore n G is
    → ProgramUsesBefore G (reading.program_of n is).read

-- So it is in what is read of the normal form of a typed program of a text.
abbrev pub NotedTextsUseBefore : Type 0
NotedTextsUseBefore = (i : Instantiated) (n : Annotation) → let s = program_of i.annotated in IsOfText s → Knows i n
    → ProgramUsesBefore (λ y. false) (reading.program_of n (normal_of (length s.sources) s.items)).read
