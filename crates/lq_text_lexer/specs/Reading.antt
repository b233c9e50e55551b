-- The tokens of a text, and the first fault of a text that has none.
use Rattle.std.specs.Prelude.{◌≡◌, ℕ, ◌+◌, ◌-◌, ◌≤◌, List, [], ◌∷◌, length, drop}
use Rattle.lq_base_names.specs.declared.place.Place.{Place}
use Rattle.lq_base_names.specs.declared.place.TextKind.{TextKind}
use Rattle.lq_text_lexer.specs.declared.token.TokenKind.{TokenKind}
use Rattle.lq_text_lexer.specs.declared.token.Token.{Token}
use Rattle.lq_text_lexer.specs.declared.token.Tokens.{Tokens}
use Rattle.lq_text_lexer.specs.declared.error.LexError.{LexError}
use Rattle.lq_text_lexer.specs.declared.error.LexError.TheVariants as errors
use Rattle.lq_text_lexer.specs.declared.front.Front.TheVariants as fronts
use Rattle.lq_text_lexer.specs.Comments.{EndsComment}
use Rattle.lq_text_lexer.specs.Front.{front_of}
use Rattle.lq_text_lexer.specs.Places.{place_at}

-- the offset at which these last bytes of the text begin
abbrev pub offset_of : List ℕ → List ℕ → ℕ
offset_of text bytes = length text - length bytes

-- the token of this kind and length at the front of the last bytes of the text
abbrev pub token_at : TextKind → List ℕ → List ℕ → TokenKind → ℕ → Token
token_at kind text bytes k n =
    let start = offset_of text bytes in
    record { kind = k; start = start; «end» = start + n; place = place_at kind text start }

-- The last bytes of the text are these tokens, with blanks and comments around them, and then the rest.
pub data Reads (kind : TextKind) (text : List ℕ) : List ℕ → List Token → List ℕ → Type 0 where
  stays : {bytes rest : List ℕ} → bytes ≡ rest → Reads kind text bytes [] rest
  blank : {bytes rest : List ℕ} {tokens : List Token} → front_of kind bytes ≡ fronts.Blank → Reads kind text (drop 1 bytes) tokens rest → Reads kind text bytes tokens rest
  comment : {bytes behind rest : List ℕ} {tokens : List Token} → front_of kind bytes ≡ fronts.Comment → EndsComment (drop 2 bytes) behind → Reads kind text behind tokens rest → Reads kind text bytes tokens rest
  token : {bytes rest : List ℕ} {tokens : List Token} (k : TokenKind) (n : ℕ) → front_of kind bytes ≡ fronts.Token k n → Reads kind text (drop n bytes) tokens rest → Reads kind text bytes (token_at kind text bytes k n ∷ tokens) rest

-- The text is these tokens, with blanks and comments around them.
abbrev pub IsTokens : TextKind → List ℕ → List Token → Type 0
IsTokens kind text tokens = Reads kind text text tokens []

-- these last bytes of the text begin with this fault
abbrev pub BeginsFault : TextKind → List ℕ → List ℕ → LexError → Type 0
BeginsFault kind text bytes (errors.BadByte place) = (k : ℕ) × (front_of kind bytes ≡ fronts.BadByte k) × (place ≡ place_at kind text (offset_of text bytes + k))
BeginsFault kind text bytes (errors.OpenComment place) =
    (front_of kind bytes ≡ fronts.Comment) × ((rest : List ℕ) → EndsComment (drop 2 bytes) rest → ⊥) × (place ≡ place_at kind text (offset_of text bytes))
BeginsFault kind text bytes (errors.LiteralPast place) = (front_of kind bytes ≡ fronts.LiteralPast) × (place ≡ place_at kind text (offset_of text bytes))
BeginsFault kind text bytes errors.Memory = ⊥

-- The text has this fault, and all before it is tokens, blanks and comments.
abbrev pub HasFault : TextKind → List ℕ → LexError → Type 0
HasFault kind text error = (tokens : List Token) × (bytes : List ℕ) × Reads kind text text tokens bytes × BeginsFault kind text bytes error

abbrev pub tokens_of : Tokens → List Token
tokens_of t = t.items.items

abbrev pub end_place_of : Tokens → Place
end_place_of t = t.«end»

-- A text has at most one list of tokens, at most one first fault, and never both.
pub record HasOneReading (kind : TextKind) (text : List ℕ) : Type 0 where
  pub tokens : (ts us : List Token) → IsTokens kind text ts → IsTokens kind text us → ts ≡ us
  pub faults : (e e' : LexError) → HasFault kind text e → HasFault kind text e' → e ≡ e'
  pub either : (ts : List Token) (e : LexError) → IsTokens kind text ts → HasFault kind text e → ⊥

abbrev pub FewTokens : Type 0
FewTokens = (kind : TextKind) (text : List ℕ) (tokens : List Token) → IsTokens kind text tokens → length tokens ≤ length text
