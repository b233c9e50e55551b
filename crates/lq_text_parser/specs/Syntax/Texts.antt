-- The trees of the three texts, said of their tokens, and that they are what readings make.
use Rattle.std.specs.Prelude.{◌≡◌, ℕ, List, [], map, ◌↔◌}
use Rattle.lq_base_names.specs.declared.place.TextKind.TheVariants.{Program, Quals, Measures}
use Rattle.lq_text_tree.specs.Items.{ItemTree}
use Rattle.lq_text_tree.specs.MeasureTrees.{MeasureTree}
use Rattle.lq_text_tree.specs.Qualifiers.{QualifierTree}
use Rattle.lq_text_actions.specs.Trees.{Makes}
use Rattle.lq_text_actions.specs.Value.{Value, items, qualifiers, measures}
use Rattle.lq_text_parser.specs.Syntax.Items.{ReadsItems}
use Rattle.lq_text_parser.specs.Syntax.Predicates.{ReadsQualifiers, ReadsMeasures}
use Rattle.lq_text_parser.specs.Syntax.Tokens.{Token, kind_of, lexeme_of}

-- the tokens are a program with these items
abbrev pub IsProgram : List Token → List ItemTree → Type 0
IsProgram ts is = (n : ℕ) × ReadsItems [] is 0 ts n []

-- the tokens are a text of these qualifiers
abbrev pub IsQualifiers : List Token → List QualifierTree → Type 0
IsQualifiers ts qs = ReadsQualifiers [] qs ts []

-- the tokens are a text of these measures
abbrev pub IsMeasures : List Token → List MeasureTree → Type 0
IsMeasures ts ms = ReadsMeasures [] ms ts []

-- What readings make of tokens is a value of the text's kind, and its trees are these.
abbrev pub ProgramsAreSame : Type 0
ProgramsAreSame = (ts : List Token) (v : Value) → Makes Program (map kind_of ts) (map lexeme_of ts) v ↔ ((is : List ItemTree) × (v ≡ items is) × IsProgram ts is)

abbrev pub QualifiersAreSame : Type 0
QualifiersAreSame = (ts : List Token) (v : Value) → Makes Quals (map kind_of ts) (map lexeme_of ts) v ↔ ((qs : List QualifierTree) × (v ≡ qualifiers qs) × IsQualifiers ts qs)

abbrev pub MeasuresAreSame : Type 0
MeasuresAreSame = (ts : List Token) (v : Value) → Makes Measures (map kind_of ts) (map lexeme_of ts) v ↔ ((ms : List MeasureTree) × (v ≡ measures ms) × IsMeasures ts ms)

-- The lines give tokens one text of a kind at most.
abbrev pub ProgramsAreOne : Type 0
ProgramsAreOne = (ts : List Token) (is js : List ItemTree) → IsProgram ts is → IsProgram ts js → is ≡ js

abbrev pub QualifiersAreOne : Type 0
QualifiersAreOne = (ts : List Token) (qs rs : List QualifierTree) → IsQualifiers ts qs → IsQualifiers ts rs → qs ≡ rs

abbrev pub MeasuresAreOne : Type 0
MeasuresAreOne = (ts : List Token) (ms ns : List MeasureTree) → IsMeasures ts ms → IsMeasures ts ns → ms ≡ ns
