-- What is read of a program depends on the types of names of the source alone.
use Rattle.std.specs.Prelude.{◌≡◌, ℕ, List, Option, Some}
use Rattle.lq_text_tree.specs.Items.{ItemTree}
use Rattle.lq_text_tree.specs.MlType.{MlType}
use Rattle.lq_meaning_normal_form.specs.Types.Programs.{normal_items}
use Rattle.lq_text_resolve.specs.Binding.Making.{program_made}
use Rattle.lq_refined_templates.specs.Points.Annotation.{Annotation}
use Rattle.lq_refined_templates.specs.Points.Reading.{program_of}
use Rattle.lq_generate_reading.specs.SourceNames.Texts.{DefinesTexts, text_in}

-- an annotation with other types for binders
abbrev pub with_names : Annotation → (ℕ → MlType) → Annotation
with_names n names = record { types = n.types; names = names; arguments = n.arguments; text = n.text; value = n.value }

-- the types are those of the annotation where a name has a source name
abbrev pub AgreesOnTexts : Annotation → (ℕ → MlType) → Type 0
AgreesOnTexts n names = (x s : ℕ) → n.text x ≡ Some s → names x ≡ n.names x

-- Where what a program defines has source names, what is read of it, with its points, doesn't depend on the types of names that were made.
abbrev pub MadeNamesAreNotRead : Type 0
MadeNamesAreNotRead =
    (n : Annotation) (names : ℕ → MlType) (is : List ItemTree) → AgreesOnTexts n names → DefinesTexts n.text is
    → program_of (with_names n names) is ≡ program_of n is

-- What a program defines keeps its source names in the normal form, and nothing else is defined there.
abbrev pub NormalFormsKeepTexts : Type 0
NormalFormsKeepTexts = (text : ℕ → Option ℕ) (k : ℕ) (is : List ItemTree) → DefinesTexts text is → DefinesTexts text (normal_items k is)

-- What a program defines once its names are bound has source names: those that its text writes.
abbrev pub ResolvedProgramsDefineTexts : Type 0
ResolvedProgramsDefineTexts = (names : List (List ℕ)) (is : List ItemTree) → let b = program_made names is in DefinesTexts (text_in b.sources) b.items
