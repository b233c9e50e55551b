-- What the readings of the three texts make, by the law of what they make.
use Rattle.std.specs.Prelude.{map, IsSome}
use Rattle.std.proofs.Common.{◌≡◌, ◌≤◌, ◌+◌, ◌*◌, arith, ℕ, List, [], ◌∷◌, length, refl, sym, ap, subst}
use Rattle.std.proofs.lemmas.List.{length-map}
use Rattle.lq_text_grammar.specs.Grammar.{start_of}
use Rattle.lq_text_grammar.specs.Levels.{IsShallow}
use Rattle.lq_text_grammar.specs.declared.symbol.Event.{Event}
use Rattle.lq_text_lexer.specs.Reading.{IsTokens}
use Rattle.lq_text_lexer.specs.declared.token.Token.{Token}
use Rattle.lq_base_names.specs.declared.limits.TheConstants.{LEVEL_LIMIT}
use Rattle.lq_base_names.specs.declared.place.TextKind.{TextKind}
use Rattle.lq_base_names.specs.declared.place.TextKind.TheVariants.{Program, Quals, Measures}
use Rattle.lq_text_tree.specs.Items.{ItemTree}
use Rattle.lq_text_tree.specs.Levels.{items_nesting}
use Rattle.lq_text_tree.specs.MeasureTrees.{MeasureTree, definitions_nesting}
use Rattle.lq_text_tree.specs.Qualifiers.{QualifierTree, qualifiers_nesting}
use Rattle.lq_text_actions.specs.Laws as laws
use Rattle.lq_text_actions.specs.Laws.{MakesOne, MakesItems, MakesQualifiers, MakesMeasures, MakesFewItems}
use Rattle.lq_text_actions.specs.Trees.{run, nowhere, nothing_made}
use Rattle.lq_text_actions.specs.Value.{Value, items, qualifiers, measures, Making}
use Rattle.lq_text_parser.specs.Parse.Making.{Makes}
use Rattle.lq_text_parser.specs.Parse.Terminals.{kind_of, kinds_of}
use Rattle.lq_text_parser.specs.Parse.Texts.{IsText}
use Rattle.lq_text_parser.specs.Parse.Trees.{lexeme_of, IsRead}
use Rattle.lq_text_parser.proofs.ParseLemmas.Fits.{tokens_fit}
use Rattle.lq_text_parser.proofs.ParseLemmas.Lexed.{tokens_are}

within : (kind : TextKind) (text : List ℕ) (names : List (List ℕ)) (tokens : List Token) (events : List Event) → IsTokens kind text tokens → IsText kind text tokens events
    → laws.IsRead kind LEVEL_LIMIT (kinds_of text tokens) (map (lexeme_of names text) tokens) events
within kind text names tokens events are is = record { reading = is.0; shallow = is.1; fit = tokens_fit names text tokens (tokens_are kind text tokens are) }

pub runs_through : MakesItems → MakesQualifiers → MakesMeasures → (kind : TextKind) (text : List ℕ) (names : List (List ℕ)) (tokens : List Token) (events : List Event) → IsTokens kind text tokens → IsText kind text tokens events
    → IsSome (run events (map (lexeme_of names text) tokens) nowhere nothing_made)
runs_through by_items by_quals by_measures Program text names tokens events are is =
    let one = by_items LEVEL_LIMIT (kinds_of text tokens) (map (lexeme_of names text) tokens) events (within Program text names tokens events are is) in
    subst (λ o. IsSome o) (sym one.1.makes) refl
runs_through by_items by_quals by_measures Quals text names tokens events are is =
    let one = by_quals LEVEL_LIMIT (kinds_of text tokens) (map (lexeme_of names text) tokens) events (within Quals text names tokens events are is) in
    subst (λ o. IsSome o) (sym one.1.makes) refl
runs_through by_items by_quals by_measures Measures text names tokens events are is =
    let one = by_measures LEVEL_LIMIT (kinds_of text tokens) (map (lexeme_of names text) tokens) events (within Measures text names tokens events are is) in
    subst (λ o. IsSome o) (sym one.1.makes) refl

-- one value is made, and read
record OneValue (kind : TextKind) (text : List ℕ) (names : List (List ℕ)) (tokens : List Token) (m : Making) (v : Value) : Type 0 where
  pub values : m.values ≡ v ∷ []
  pub read : IsRead kind text names tokens v

one_value : (kind : TextKind) (text : List ℕ) (names : List (List ℕ)) (tokens : List Token) (m : Making) (v : Value) (b : Makes kind text names tokens m) → MakesOne b.events (map (lexeme_of names text) tokens) v → OneValue kind text names tokens m v
one_value kind text names tokens m v b one =
    let runs = b.runs in
    let makes = one.makes in
    let same : m ≡ record { made = one.nodes; values = v ∷ [] } = cc in
    record {
      values = ap (λ (x : Making). x.values) same;
      read = record {
        makes = record { events = b.events; reading = b.reading.0; nodes = one.nodes; makes = one.makes };
        shallow = subst (λ n. IsShallow (start_of kind) LEVEL_LIMIT (kinds_of text tokens) n) (length-map tokens (kind_of text)) b.reading.1;
      };
    }

pub made_program : MakesItems → (text : List ℕ) (names : List (List ℕ)) (tokens : List Token) (m : Making) → IsTokens Program text tokens → Makes Program text names tokens m
    → (row : List ItemTree) × (m.values ≡ items row ∷ []) × (items_nesting row ≤ LEVEL_LIMIT) × IsRead Program text names tokens (items row)
made_program law text names tokens m are b =
    let one = law LEVEL_LIMIT (kinds_of text tokens) (map (lexeme_of names text) tokens) b.events (within Program text names tokens b.events are b.reading) in
    let made = one_value Program text names tokens m (items one.0) b one.1 in
    (one.0, made.values, one.2, made.read)

pub made_program_row : MakesItems → (text : List ℕ) (names : List (List ℕ)) (tokens : List Token) (m : Making) (row : List ItemTree) (rest : List Value) → IsTokens Program text tokens → Makes Program text names tokens m → m.values ≡ items row ∷ rest
    → (items_nesting row ≤ LEVEL_LIMIT) × IsRead Program text names tokens (items row)
made_program_row law text names tokens m row rest are b stands =
    let made = made_program law text names tokens m are b in
    let values : m.values ≡ items made.0 ∷ [] = made.1 in
    let same : made.0 ≡ row = cc in
    (subst (λ (r : List ItemTree). items_nesting r ≤ LEVEL_LIMIT) same made.2, subst (λ (r : List ItemTree). IsRead Program text names tokens (items r)) same made.3)

-- no more items than steps, and so not many
pub made_program_few : MakesItems → MakesFewItems → (text : List ℕ) (names : List (List ℕ)) (tokens : List Token) (m : Making) (row : List ItemTree) (rest : List Value) → IsTokens Program text tokens → Makes Program text names tokens m → m.values ≡ items row ∷ rest
    → length row ≤ 80 * length tokens + 43
made_program_few law few text names tokens m row rest are b stands =
    let one = law LEVEL_LIMIT (kinds_of text tokens) (map (lexeme_of names text) tokens) b.events (within Program text names tokens b.events are b.reading) in
    let made = one_value Program text names tokens m (items one.0) b one.1 in
    let values : m.values ≡ items one.0 ∷ [] = made.values in
    let same : one.0 ≡ row = cc in
    let bound : length one.0 ≤ length b.events = few (map (lexeme_of names text) tokens) b.events one.0 one.1 in
    let steps = b.few in
    subst (λ (r : List ItemTree). length r ≤ 80 * length tokens + 43) same (omega (arith, bound, steps))

pub made_program_stands : MakesItems → (text : List ℕ) (names : List (List ℕ)) (tokens : List Token) (m : Making) → IsTokens Program text tokens → Makes Program text names tokens m → ((row : List ItemTree) (rest : List Value) → m.values ≡ items row ∷ rest → ⊥) → ⊥
made_program_stands law text names tokens m are b none =
    let made = made_program law text names tokens m are b in
    none made.0 [] made.1

pub made_quals : MakesQualifiers → (text : List ℕ) (names : List (List ℕ)) (tokens : List Token) (m : Making) → IsTokens Quals text tokens → Makes Quals text names tokens m
    → (row : List QualifierTree) × (m.values ≡ qualifiers row ∷ []) × (qualifiers_nesting row ≤ LEVEL_LIMIT) × IsRead Quals text names tokens (qualifiers row)
made_quals law text names tokens m are b =
    let one = law LEVEL_LIMIT (kinds_of text tokens) (map (lexeme_of names text) tokens) b.events (within Quals text names tokens b.events are b.reading) in
    let made = one_value Quals text names tokens m (qualifiers one.0) b one.1 in
    (one.0, made.values, one.2, made.read)

pub made_quals_row : MakesQualifiers → (text : List ℕ) (names : List (List ℕ)) (tokens : List Token) (m : Making) (row : List QualifierTree) (rest : List Value) → IsTokens Quals text tokens → Makes Quals text names tokens m → m.values ≡ qualifiers row ∷ rest
    → (qualifiers_nesting row ≤ LEVEL_LIMIT) × IsRead Quals text names tokens (qualifiers row)
made_quals_row law text names tokens m row rest are b stands =
    let made = made_quals law text names tokens m are b in
    let values : m.values ≡ qualifiers made.0 ∷ [] = made.1 in
    let same : made.0 ≡ row = cc in
    (subst (λ (r : List QualifierTree). qualifiers_nesting r ≤ LEVEL_LIMIT) same made.2, subst (λ (r : List QualifierTree). IsRead Quals text names tokens (qualifiers r)) same made.3)

pub made_quals_stands : MakesQualifiers → (text : List ℕ) (names : List (List ℕ)) (tokens : List Token) (m : Making) → IsTokens Quals text tokens → Makes Quals text names tokens m → ((row : List QualifierTree) (rest : List Value) → m.values ≡ qualifiers row ∷ rest → ⊥) → ⊥
made_quals_stands law text names tokens m are b none =
    let made = made_quals law text names tokens m are b in
    none made.0 [] made.1

pub made_measures : MakesMeasures → (text : List ℕ) (names : List (List ℕ)) (tokens : List Token) (m : Making) → IsTokens Measures text tokens → Makes Measures text names tokens m
    → (row : List MeasureTree) × (m.values ≡ measures row ∷ []) × (definitions_nesting row ≤ LEVEL_LIMIT) × IsRead Measures text names tokens (measures row)
made_measures law text names tokens m are b =
    let one = law LEVEL_LIMIT (kinds_of text tokens) (map (lexeme_of names text) tokens) b.events (within Measures text names tokens b.events are b.reading) in
    let made = one_value Measures text names tokens m (measures one.0) b one.1 in
    (one.0, made.values, one.2, made.read)

pub made_measures_row : MakesMeasures → (text : List ℕ) (names : List (List ℕ)) (tokens : List Token) (m : Making) (row : List MeasureTree) (rest : List Value) → IsTokens Measures text tokens → Makes Measures text names tokens m → m.values ≡ measures row ∷ rest
    → (definitions_nesting row ≤ LEVEL_LIMIT) × IsRead Measures text names tokens (measures row)
made_measures_row law text names tokens m row rest are b stands =
    let made = made_measures law text names tokens m are b in
    let values : m.values ≡ measures made.0 ∷ [] = made.1 in
    let same : made.0 ≡ row = cc in
    (subst (λ (r : List MeasureTree). definitions_nesting r ≤ LEVEL_LIMIT) same made.2, subst (λ (r : List MeasureTree). IsRead Measures text names tokens (measures r)) same made.3)

pub made_measures_stands : MakesMeasures → (text : List ℕ) (names : List (List ℕ)) (tokens : List Token) (m : Making) → IsTokens Measures text tokens → Makes Measures text names tokens m → ((row : List MeasureTree) (rest : List Value) → m.values ≡ measures row ∷ rest → ⊥) → ⊥
made_measures_stands law text names tokens m are b none =
    let made = made_measures law text names tokens m are b in
    none made.0 [] made.1
