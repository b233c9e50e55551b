-- What the readings of the three texts make, where no token has a level above a limit.
use Rattle.std.specs.Prelude.{◌≡◌, ℕ, ◌*◌, ◌≤◌, List, [], ◌∷◌, length, Some}
use Rattle.lq_text_grammar.specs.Grammar.{start_of}
use Rattle.lq_text_grammar.specs.Levels.{IsShallow}
use Rattle.lq_text_grammar.specs.Reading.{IsText}
use Rattle.lq_text_grammar.specs.declared.kind.Kind.{Kind}
use Rattle.lq_text_grammar.specs.declared.symbol.Event.{Event}
use Rattle.lq_base_names.specs.declared.place.TextKind.{TextKind}
use Rattle.lq_base_names.specs.declared.place.TextKind.TheVariants.{Program, Quals, Measures}
use Rattle.lq_text_tree.specs.Items.{ItemTree}
use Rattle.lq_text_tree.specs.Levels.{items_nesting}
use Rattle.lq_text_tree.specs.MeasureTrees.{MeasureTree, definitions_nesting}
use Rattle.lq_text_tree.specs.Qualifiers.{QualifierTree, qualifiers_nesting}
use Rattle.lq_text_actions.specs.Value.{Lexeme, Value, items, qualifiers, measures}
use Rattle.lq_text_actions.specs.Trees.{run, nowhere, nothing_made, FitKinds}

-- the steps make this one value, and at most two nodes each
pub record MakesOne (events : List Event) (lexemes : List Lexeme) (v : Value) : Type 0 where
  pub nodes : ℕ
  pub makes : run events lexemes nowhere nothing_made ≡ Some (record { made = nodes; values = v ∷ [] })
  pub bound : nodes ≤ 2 * length events

-- these steps read the tokens as a text of this kind, and no token has a level above the limit
pub record IsRead (kind : TextKind) (limit : ℕ) (kinds : List Kind) (lexemes : List Lexeme) (events : List Event) : Type 0 where
  pub reading : IsText (start_of kind) kinds events
  pub shallow : IsShallow (start_of kind) limit kinds (length kinds)
  pub fit : FitKinds kinds lexemes

-- Such steps make the items of a program, qualifiers or measures, whose trees nest no deeper than the limit.
abbrev pub MakesItems : Type 0
MakesItems = (limit : ℕ) (ks : List Kind) (ls : List Lexeme) (es : List Event) → IsRead Program limit ks ls es
    → (is : List ItemTree) × MakesOne es ls (items is) × (items_nesting is ≤ limit)

abbrev pub MakesQualifiers : Type 0
MakesQualifiers = (limit : ℕ) (ks : List Kind) (ls : List Lexeme) (es : List Event) → IsRead Quals limit ks ls es
    → (qs : List QualifierTree) × MakesOne es ls (qualifiers qs) × (qualifiers_nesting qs ≤ limit)

abbrev pub MakesMeasures : Type 0
MakesMeasures = (limit : ℕ) (ks : List Kind) (ls : List Lexeme) (es : List Event) → IsRead Measures limit ks ls es
    → (ms : List MeasureTree) × MakesOne es ls (measures ms) × (definitions_nesting ms ≤ limit)

-- The items of a program are at most as many as the steps that make them.
abbrev pub MakesFewItems : Type 0
MakesFewItems = (ls : List Lexeme) (es : List Event) (is : List ItemTree) → MakesOne es ls (items is) → length is ≤ length es
