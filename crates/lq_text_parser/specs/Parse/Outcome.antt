-- What an answer to the tokens of a text says.
use Rattle.std.specs.Prelude.{◌≡◌, ◌≤◌, ◌+◌, ℕ, List, length, take, Result, Err, IfOk, OnOk}
use Rattle.lq_text_lexer.specs.Reading.{tokens_of, end_place_of}
use Rattle.lq_text_lexer.specs.declared.token.Tokens.{Tokens}
use Rattle.lq_base_names.specs.NameTable.{IsNameTable}
use Rattle.lq_base_names.specs.declared.place.Place.{Place}
use Rattle.lq_base_names.specs.declared.place.TextKind.{TextKind}
use Rattle.lq_text_parser.specs.Parse.Texts.{IsSyntax, IsTooDeep}
use Rattle.lq_text_parser.specs.Parse.Trees.{with_names}
use Rattle.lq_text_parser.specs.declared.parse.error.ParseError.{ParseError}
use Rattle.lq_text_parser.specs.declared.parse.error.ParseError.TheVariants.{Syntax, TooDeep}

-- What is answered to these tokens and what is made of a table of names: Ok has what is asked for and the names of the text in
-- the table, which keeps what it held and gets at most one name a token whatever the answer; a text that is refused stops or is too
-- deep at that place, and leaves the table as it was.
pub record IsParseOutcome {A : Type 0} (kind : TextKind) (text : List ℕ) (tokens : Tokens) (before after : List (List ℕ)) (Is : A → Type 0) (answer : Result A ParseError) : Type 0 where
  pub ok : IfOk answer Is
  pub names : OnOk answer (after ≡ with_names text (tokens_of tokens) before)
  pub kept : take (length before) after ≡ before
  pub added : length after ≤ length before + length (tokens_of tokens)
  pub table : IsNameTable after
  pub syntax : (place : Place) → answer ≡ Err (Syntax place) → IsSyntax kind text (tokens_of tokens) (end_place_of tokens) place
  pub too_deep : (place : Place) → answer ≡ Err (TooDeep place) → IsTooDeep kind text (tokens_of tokens) (end_place_of tokens) place
  pub unchanged_by_syntax : (place : Place) → answer ≡ Err (Syntax place) → after ≡ before
  pub unchanged_by_depth : (place : Place) → answer ≡ Err (TooDeep place) → after ≡ before
