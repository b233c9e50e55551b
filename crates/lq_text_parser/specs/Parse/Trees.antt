-- The trees of the three texts. A name is the number of its text in a name table.
use Rattle.std.specs.Prelude.{ℕ, suc, List, [], ◌∷◌, map, length, if◌then◌else◌}
use Rattle.std.specs.Str.{bytes_eq}
use Rattle.lq_text_grammar.specs.Grammar.{start_of}
use Rattle.lq_text_grammar.specs.Levels.{IsShallow}
use Rattle.lq_text_lexer.specs.declared.token.Token.{Token}
use Rattle.lq_text_lexer.specs.declared.token.TokenKind.{TokenKind}
use Rattle.lq_text_lexer.specs.declared.token.TokenKind.TheVariants as of
use Rattle.lq_base_names.specs.declared.limits.TheConstants.{LEVEL_LIMIT}
use Rattle.lq_base_names.specs.NameTable.{with_text}
use Rattle.lq_base_names.specs.declared.place.TextKind.{TextKind}
use Rattle.lq_text_actions.specs.Value.{Content, some_name, some_number, neither, Lexeme, Value}
use Rattle.lq_text_actions.specs.Trees.{Makes}
use Rattle.lq_text_parser.specs.Parse.Terminals.{bytes_of, kinds_of}

-- the number of a text of the table
abbrev pub number_in : List (List ℕ) → List ℕ → ℕ
number_in [] word = 0
number_in (t ∷ ts) word = if bytes_eq t word then 0 else suc (number_in ts word)

-- a name has the number of its bytes, a number its value
abbrev pub content_of : List (List ℕ) → TokenKind → List ℕ → Content
content_of names of.Lower word = some_name (number_in names word)
content_of names of.Upper word = some_name (number_in names word)
content_of names of.TypeVar word = some_name (number_in names word)
content_of names (of.Number n) word = some_number n
content_of names (of.Keyword k) word = neither
content_of names of.Symbol word = neither

-- a token as actions see it
abbrev pub lexeme_of : List (List ℕ) → List ℕ → Token → Lexeme
lexeme_of names text t = record { place = t.place; content = content_of names t.kind (bytes_of text t) }

-- a table with the word of a token of this kind, where that is a name
abbrev pub with_name : TokenKind → List ℕ → List (List ℕ) → List (List ℕ)
with_name of.Lower word names = with_text names word
with_name of.Upper word names = with_text names word
with_name of.TypeVar word names = with_text names word
with_name (of.Number n) word names = names
with_name (of.Keyword k) word names = names
with_name of.Symbol word names = names

-- a table with the names among these tokens, in their order
abbrev pub with_names : List ℕ → List Token → List (List ℕ) → List (List ℕ)
with_names text [] names = names
with_names text (t ∷ ts) names = with_names text ts (with_name t.kind (bytes_of text t) names)

-- These tokens are a text of this kind in which no token has a level above the limit, and what is read of them is this value.
pub record IsRead (kind : TextKind) (text : List ℕ) (names : List (List ℕ)) (tokens : List Token) (v : Value) : Type 0 where
  pub makes : Makes kind (kinds_of text tokens) (map (lexeme_of names text) tokens) v
  pub shallow : IsShallow (start_of kind) LEVEL_LIMIT (kinds_of text tokens) (length tokens)
