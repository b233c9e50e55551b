-- What the tokens of a text make.
use Rattle.std.specs.Prelude.{◌≡◌, ◌≤◌, ◌+◌, ◌*◌, ℕ, List, length, map, Some}
use Rattle.lq_text_grammar.specs.declared.symbol.Event.{Event}
use Rattle.lq_text_lexer.specs.declared.token.Token.{Token}
use Rattle.lq_base_names.specs.declared.place.TextKind.{TextKind}
use Rattle.lq_text_actions.specs.Trees.{run, nowhere, nothing_made}
use Rattle.lq_text_actions.specs.Value.{Making}
use Rattle.lq_text_parser.specs.Parse.Texts.{IsText}
use Rattle.lq_text_parser.specs.Parse.Trees.{lexeme_of}

-- These tokens are a text of this kind within the limit, and this is what the steps of its reading make.
pub record Makes (kind : TextKind) (text : List ℕ) (names : List (List ℕ)) (tokens : List Token) (m : Making) : Type 0 where
  pub events : List Event
  pub reading : IsText kind text tokens events
  pub few : length events ≤ 80 * length tokens + 43
  pub runs : run events (map (lexeme_of names text) tokens) nowhere nothing_made ≡ Some m
