-- Laws of programs of texts whose normal form can be read.
use Rattle.std.specs.Prelude.{ℕ, List, []}
use Rattle.lq_text_tree.specs.Items.{ItemTree}
use Rattle.lq_text_tree.specs.Types.{Signature}
use Rattle.lq_text_tree.specs.TypingRules.{Annotation, ItemsAre}
use Rattle.lq_text_walk.specs.Scoped.Signature.{signature_in}
use Rattle.lq_text_lexer.specs.declared.token.Token.{Token}
use Rattle.lq_base_names.specs.declared.place.TextKind.TheVariants.{Program}
use Rattle.lq_text_actions.specs.Value.{items}
use Rattle.lq_text_parser.specs.Parse.Trees.{IsRead}
use Rattle.lq_text_resolve.specs.Resolution.Resolution.{scoping_of}
use Rattle.lq_meaning_normal_form.specs.Types.Written.{ItemsAreWritten}
use Rattle.lq_sound_readiness.specs.NormalReading.Suits.{ItemsSuit}
use Rattle.lq_sound_readiness.specs.TypedTexts.Flat.{ItemsAreFlat}

-- Once the names of a program that was read from tokens are bound, each parameter is a name, `_` or `()`, and the parts of each pattern of an
-- arm are names or `_`.
abbrev pub TextsHaveFlatPatterns : Type 0
TextsHaveFlatPatterns = (text : List ℕ) (names : List (List ℕ)) (tokens : List Token) (is : List ItemTree)
    → IsRead Program text names tokens (items is) → (known : List (List ℕ)) → ItemsAreFlat (scoping_of known is).items

-- A program whose trees and patterns are as texts have them suits where an annotation obeys the rules of types.
abbrev pub TypedProgramsSuit : Type 0
TypedProgramsSuit = (g : Signature) (n : Annotation) (is : List ItemTree) → ItemsAreWritten is → ItemsAreFlat is → ItemsAre g n [] is → ItemsSuit is

-- So a program that was read from tokens suits then.
abbrev pub TypedTextsSuit : Type 0
TypedTextsSuit = (text : List ℕ) (names : List (List ℕ)) (tokens : List Token) (is : List ItemTree)
    → IsRead Program text names tokens (items is) → (known : List (List ℕ)) (n : Annotation)
    → ItemsAre (signature_in (scoping_of known is).datatypes) n [] (scoping_of known is).items → ItemsSuit (scoping_of known is).items
