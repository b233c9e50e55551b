-- What is a text of which kind, and where one that is none stops.
use Rattle.std.specs.Prelude.{◌≡◌, ℕ, List, length, slice_get, Option, Some, None}
use Rattle.lq_text_grammar.specs.Grammar.{start_of}
use Rattle.lq_text_grammar.specs.Levels as levels
use Rattle.lq_text_grammar.specs.Levels.{IsShallow}
use Rattle.lq_text_grammar.specs.Reading as reading
use Rattle.lq_text_grammar.specs.declared.symbol.Event.{Event}
use Rattle.lq_text_lexer.specs.declared.token.Token.{Token}
use Rattle.lq_base_names.specs.declared.limits.TheConstants.{LEVEL_LIMIT}
use Rattle.lq_base_names.specs.declared.place.Place.{Place}
use Rattle.lq_base_names.specs.declared.place.TextKind.{TextKind}
use Rattle.lq_text_parser.specs.Parse.Terminals.{kinds_of}

-- the place of this token, or the end of the text
abbrev pub place_in : Option Token → Place → Place
place_in None end_ = end_
place_in (Some t) end_ = t.place

abbrev pub place_of : List Token → Place → ℕ → Place
place_of tokens end_ at = place_in (slice_get tokens at) end_

-- These tokens are a text of this kind, with no level above the limit, and its reading has these steps.
abbrev pub IsText : TextKind → List ℕ → List Token → List Event → Type 0
IsText kind text tokens events =
    reading.IsText (start_of kind) (kinds_of text tokens) events
    × IsShallow (start_of kind) LEVEL_LIMIT (kinds_of text tokens) (length (kinds_of text tokens))

-- At this place is the first stop, and no token up to it has a level above the limit.
abbrev pub IsSyntax : TextKind → List ℕ → List Token → Place → Place → Type 0
IsSyntax kind text tokens end_ place =
    (at : ℕ) × levels.IsSyntax (start_of kind) LEVEL_LIMIT (kinds_of text tokens) at × (place ≡ place_of tokens end_ at)

-- At this place is the first token with a level above the limit, and what is before it begins a text.
abbrev pub IsTooDeep : TextKind → List ℕ → List Token → Place → Place → Type 0
IsTooDeep kind text tokens end_ place =
    (at : ℕ) × levels.IsTooDeep (start_of kind) LEVEL_LIMIT (kinds_of text tokens) at × (place ≡ place_of tokens end_ at)
