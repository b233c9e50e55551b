-- What is read of the normal form of a typed program is ready for its implications.
use Rattle.std.specs.Prelude.{◌≡◌, ℕ, List, [], length}
use Rattle.lq_text_tree.specs.Items.{ItemTree}
use Rattle.lq_text_tree.specs.Types.{KnowsLists}
use Rattle.lq_text_tree.specs.TypingRules.{ItemsAre}
use Rattle.lq_text_walk.specs.Scoped.Scoping.{Scoping, IsScoped}
use Rattle.lq_text_walk.specs.Scoped.Signature.{signature_in}
use Rattle.lq_text_lexer.specs.declared.token.Token.{Token}
use Rattle.lq_base_names.specs.declared.place.TextKind.TheVariants.{Program}
use Rattle.lq_text_actions.specs.Value.{items}
use Rattle.lq_text_parser.specs.Parse.Trees.{IsRead}
use Rattle.lq_text_resolve.specs.Resolution.Resolution.{scoping_of}
use Rattle.lq_meaning_normal_form.specs.Types.Made.{Gives}
use Rattle.lq_meaning_normal_form.specs.Types.Programs.{NormalItemsAre, items_made, normal_items}
use Rattle.lq_meaning_normal_form.specs.Types.Written.{ItemsAreWritten}
use Rattle.lq_refined_rules.specs.Checks.Binders.{AllDiffer, binders}
use Rattle.lq_refined_rules.specs.Checks.Ready.{IsReady}
use Rattle.lq_refined_templates.specs.Points.Annotation.{Annotation}
use Rattle.lq_refined_templates.specs.Points.Reading.{program_of}
use Rattle.lq_refined_templates.specs.Points.Templates.{Datatypes, basis_of}
use Rattle.lq_sound_readiness.specs.Reading.Laws.{types_of}
use Rattle.lq_sound_readiness.specs.Reading.Normal.{AreNormal}
use Rattle.lq_sound_readiness.specs.Reading.Uses.{ItemsUsesFit}
use Rattle.lq_sound_readiness.specs.TypedTexts.Flat.{ItemsAreFlat}

-- what is read of a program is ready over its points
abbrev pub IsReadReady : Datatypes → Annotation → List ItemTree → Type 0
IsReadReady D n is = let p = program_of n is in IsReady (basis_of D p.points) [] p.read

-- What is read of a program in normal form that obeys the rules of types for normal trees, and whose uses fit, is ready where its binders
-- differ.
abbrev pub NormalProgramsAreReady : Type 0
NormalProgramsAreReady = (D : Datatypes) (n : Annotation) (is : List ItemTree) → AreNormal is → NormalItemsAre D.constructors (types_of n) [] is
    → ItemsUsesFit n [] is → AllDiffer (binders (program_of n is).read) → IsReadReady D n is

-- So is what is read of the normal form of a scoped program that obeys the rules of types, where its trees and patterns are as texts have
-- them, and made names have the types of what they are bound to.
abbrev pub TypedProgramsAreReady : Type 0
TypedProgramsAreReady = (D : Datatypes) (n : Annotation) (s : Scoping) → KnowsLists D.constructors → IsScoped s → ItemsAreWritten s.items → ItemsAreFlat s.items
    → ItemsAre D.constructors (types_of n) [] s.items
    → let k = length s.sources in Gives (types_of n) (items_made D.constructors n.types k s.items)
    → ItemsUsesFit n [] (normal_items k s.items) → IsReadReady D n (normal_items k s.items)

-- So is that of a program that was read from tokens, once its names are bound, with the constructors that its datatypes give.
abbrev pub TypedTextsAreReady : Type 0
TypedTextsAreReady = (text : List ℕ) (names : List (List ℕ)) (tokens : List Token) (is : List ItemTree)
    → IsRead Program text names tokens (items is) → (known : List (List ℕ)) (D : Datatypes) (n : Annotation)
    → let s = scoping_of known is in IsScoped s → D.constructors ≡ signature_in s.datatypes → ItemsAre D.constructors (types_of n) [] s.items
    → let k = length s.sources in Gives (types_of n) (items_made D.constructors n.types k s.items)
    → ItemsUsesFit n [] (normal_items k s.items) → IsReadReady D n (normal_items k s.items)
