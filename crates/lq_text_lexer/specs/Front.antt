-- What stands at the front of bytes: a blank, the beginning of a comment, the longest token, or a fault.
use Rattle.std.specs.Prelude.{ℕ, ◌+◌, ◌-◌, ◌*◌, ◌==◌, ◌<◌, ◌≤◌, Bool, false, nat_lt, List, [], ◌∷◌, Option, Some, None, length, drop, take_while, if◌then◌else◌, codes}
use Rattle.std.specs.Str.{bytes_eq}
use Rattle.lq_base_names.specs.declared.limits.TheConstants.{LITERAL_LIMIT}
use Rattle.lq_base_names.specs.declared.place.TextKind.{TextKind}
use Rattle.lq_text_lexer.specs.declared.keyword.Keyword.{Keyword}
use Rattle.lq_text_lexer.specs.declared.token.TokenKind.{TokenKind}
use Rattle.lq_text_lexer.specs.declared.token.TokenKind.TheVariants as kinds
use Rattle.lq_text_lexer.specs.declared.front.Front.{Front}
use Rattle.lq_text_lexer.specs.declared.front.Front.TheVariants.{End, Blank, Comment, Token, BadByte, LiteralPast}
use Rattle.lq_text_lexer.specs.Bytes.{is_blank, is_digit, begins_lower, begins_upper, is_letter, is_name_byte, is_number_byte}
use Rattle.lq_text_lexer.specs.Keywords.{keyword_of}
use Rattle.lq_text_lexer.specs.Symbols.{symbol_len}

-- how many bytes at the front pass the test
abbrev pub run : (ℕ → Bool) → List ℕ → ℕ
run p bytes = length (take_while p bytes)

abbrev pub word_kind : Option Keyword → TokenKind
word_kind None = kinds.Lower
word_kind (Some keyword) = kinds.Keyword keyword

-- a lower name, a reserved word, or the symbol _
unfoldable pub word_front : TextKind → List ℕ → Front
word_front kind word =
    if bytes_eq word (codes "_") then Token kinds.Symbol 1
    else Token (word_kind (keyword_of kind word)) (length word)

-- the name that a type variable has behind its quote: also a reserved word, but not _ alone
abbrev pub is_type_variable : List ℕ → Bool
is_type_variable [] = false
is_type_variable (b ∷ bytes) = if bytes_eq (take_while is_name_byte (b ∷ bytes)) (codes "_") then false else begins_lower b

-- a quote, with these bytes behind it
unfoldable pub quote_front : List ℕ → Front
quote_front bytes = if is_type_variable bytes then Token kinds.TypeVar (1 + run is_name_byte bytes) else BadByte 0

-- the decimal number that digits go on from n; an underscore counts nothing
abbrev pub number_from : ℕ → List ℕ → ℕ
number_from n [] = n
number_from n (d ∷ digits) = if d == 95 then number_from n digits else number_from (n * 10 + (d - 48)) digits

abbrev pub begins_letter : List ℕ → Bool
begins_letter [] = false
begins_letter (b ∷ bytes) = is_letter b

-- a literal; a letter may not stand directly behind it
abbrev pub literal_front : ℕ → ℕ → List ℕ → Front
literal_front value len behind =
    if nat_lt LITERAL_LIMIT value then LiteralPast
    else if begins_letter behind then BadByte len
    else Token (kinds.Number value) len

unfoldable pub number_front : List ℕ → Front
number_front bytes = literal_front (number_from 0 (take_while is_number_byte bytes)) (run is_number_byte bytes) (drop (run is_number_byte bytes) bytes)

abbrev pub symbol_of_len : ℕ → Front
symbol_of_len len = if len == 0 then BadByte 0 else Token kinds.Symbol len

unfoldable pub symbol_front : List ℕ → Front
symbol_front bytes = symbol_of_len (symbol_len bytes)

-- what stands at the front of bytes that begin with no blank and no comment
unfoldable pub token_front : TextKind → ℕ → List ℕ → Front
token_front kind b bytes =
    if begins_lower b then word_front kind (take_while is_name_byte (b ∷ bytes))
    else if begins_upper b then Token kinds.Upper (run is_name_byte (b ∷ bytes))
    else if b == 39 then quote_front bytes
    else if is_digit b then number_front (b ∷ bytes)
    else symbol_front (b ∷ bytes)

abbrev pub is_opening : List ℕ → Bool
is_opening [] = false
is_opening (a ∷ []) = false
is_opening (a ∷ b ∷ bytes) = if a == 40 then b == 42 else false

unfoldable pub front_of : TextKind → List ℕ → Front
front_of kind [] = End
front_of kind (b ∷ bytes) =
    if is_blank b then Blank
    else if is_opening (b ∷ bytes) then Comment
    else token_front kind b bytes

-- how many bytes of the text a front speaks of
abbrev pub front_len : Front → ℕ
front_len End = 0
front_len Blank = 1
front_len Comment = 2
front_len (Token kind len) = len
front_len (BadByte further) = further
front_len LiteralPast = 0

-- a token has a byte
abbrev pub HasBytes : Front → Type 0
HasBytes (Token kind len) = 0 < len
HasBytes f = Unit {0}

-- there are these bytes
pub record FitsIn (f : Front) (bytes : List ℕ) : Type 0 where
  pub within : front_len f ≤ length bytes
  pub some : HasBytes f
