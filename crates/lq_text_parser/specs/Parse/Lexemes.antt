-- Names as they are numbered.
use Rattle.std.specs.Prelude.{◌≡◌, ℕ, List, slice_get, Some}
use Rattle.std.specs.Str.{IsAscii}
use Rattle.lq_text_lexer.specs.declared.token.TokenKind.{TokenKind}
use Rattle.lq_text_lexer.specs.declared.token.TokenKind.TheVariants as of
use Rattle.lq_text_actions.specs.Value.{Content, some_name, some_number, neither}

-- where a token is a name, its bytes are ASCII
abbrev pub HasNameBytes : TokenKind → List ℕ → Type 0
HasNameBytes of.Lower word = IsAscii word
HasNameBytes of.Upper word = IsAscii word
HasNameBytes of.TypeVar word = IsAscii word
HasNameBytes (of.Number n) word = Unit {0}
HasNameBytes (of.Keyword k) word = Unit {0}
HasNameBytes of.Symbol word = Unit {0}

-- a number that stands for the word
abbrev pub IsNumbered : List (List ℕ) → List ℕ → Content → Type 0
IsNumbered names word c = (n : ℕ) × (c ≡ some_name n) × (slice_get names n ≡ Some word)

-- the content is that of a token of this kind with this word, where the table may have further names
abbrev pub ContentFits : List (List ℕ) → TokenKind → List ℕ → Content → Type 0
ContentFits names of.Lower word c = IsNumbered names word c
ContentFits names of.Upper word c = IsNumbered names word c
ContentFits names of.TypeVar word c = IsNumbered names word c
ContentFits names (of.Number v) word c = c ≡ some_number v
ContentFits names (of.Keyword k) word c = c ≡ neither
ContentFits names of.Symbol word c = c ≡ neither
