-- Laws of programs of texts.
use Rattle.std.specs.Prelude.{◌≡◌, ℕ, true, List, []}
use Rattle.lq_text_tree.specs.Items.{ItemTree}
use Rattle.lq_text_tree.specs.TypingRules.{Annotation, ItemsAre}
use Rattle.lq_text_walk.specs.Scoped.Signature.{signature_in}
use Rattle.lq_text_lexer.specs.declared.token.Token.{Token}
use Rattle.lq_base_names.specs.declared.place.TextKind.TheVariants.{Program}
use Rattle.lq_text_actions.specs.Value.{items}
use Rattle.lq_text_parser.specs.Parse.Trees.{IsRead}
use Rattle.lq_text_resolve.specs.Resolution.Resolution.{scoping_of}
use Rattle.lq_meaning_normalize.specs.Pass.Rules.{items_have_rules}
use Rattle.lq_meaning_normal_form.specs.Types.Programs.{HaveTypes}
use Rattle.lq_meaning_normal_form.specs.Types.Written.{ItemsAreWritten}

-- Once the names of a program that was read from tokens are bound, its trees are as texts have them, and none of its items defines a datatype.
abbrev pub ParsedProgramsAreWritten : Type 0
ParsedProgramsAreWritten = (text : List ℕ) (names : List (List ℕ)) (tokens : List Token) (is : List ItemTree)
    → IsRead Program text names tokens (items is) → (known : List (List ℕ)) → ItemsAreWritten (scoping_of known is).items

-- A program whose trees are as texts have them, and which has types, has a rule at each node.
abbrev pub TypedProgramsHaveRules : Type 0
TypedProgramsHaveRules = (is : List ItemTree) → ItemsAreWritten is → HaveTypes is → items_have_rules is ≡ true

-- Where an annotation of a program's definitions with their names bound obeys the rules of types, and the program's datatypes give the
-- signature, the definitions have types.
abbrev pub AnnotatedProgramsHaveTypes : Type 0
AnnotatedProgramsHaveTypes = (known : List (List ℕ)) (is : List ItemTree) (n : Annotation)
    → ItemsAre (signature_in (scoping_of known is).datatypes) n [] (scoping_of known is).items → HaveTypes (scoping_of known is).items

-- So a program that was read from tokens has a rule at each node then, and has types.
abbrev pub TypedTextsHaveRules : Type 0
TypedTextsHaveRules = (text : List ℕ) (names : List (List ℕ)) (tokens : List Token) (is : List ItemTree)
    → IsRead Program text names tokens (items is) → (known : List (List ℕ)) (n : Annotation)
    → ItemsAre (signature_in (scoping_of known is).datatypes) n [] (scoping_of known is).items
    → (items_have_rules (scoping_of known is).items ≡ true) × HaveTypes (scoping_of known is).items
