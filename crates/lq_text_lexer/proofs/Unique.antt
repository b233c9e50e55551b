-- A text has one list of tokens, or one first fault, and never both.
use Rattle.std.proofs.Common.{◌≡◌, ◌+◌, ℕ, List, [], ◌∷◌, drop, refl, sym, ap, ◌∙◌, subst}
use Rattle.lq_base_names.specs.declared.place.TextKind.{TextKind}
use Rattle.lq_text_lexer.specs.declared.token.TokenKind.{TokenKind}
use Rattle.lq_text_lexer.specs.declared.token.Token.{Token}
use Rattle.lq_text_lexer.specs.declared.error.LexError.{LexError}
use Rattle.lq_text_lexer.specs.declared.error.LexError.TheVariants as errors
use Rattle.lq_text_lexer.specs.declared.front.Front.TheVariants as fronts
use Rattle.lq_text_lexer.specs.Comments.{EndsComment}
use Rattle.lq_text_lexer.specs.Front.{front_of}
use Rattle.lq_text_lexer.specs.Places.{place_at}
use Rattle.lq_text_lexer.specs.Reading.{offset_of, token_at, Reads, stays, blank, comment, token, BeginsFault, HasOneReading}
use Rattle.lq_text_lexer.proofs.Ends.{one_end}

-- reading can't go on from here
record Stops (kind : TextKind) (bytes : List ℕ) : Type 0 where
  at_blank : front_of kind bytes ≡ fronts.Blank → ⊥
  at_token : (k : TokenKind) (n : ℕ) → front_of kind bytes ≡ fronts.Token k n → ⊥
  at_comment : front_of kind bytes ≡ fronts.Comment → (rest : List ℕ) → EndsComment (drop 2 bytes) rest → ⊥

moved : {kind : TextKind} {bytes rest : List ℕ} → bytes ≡ rest → Stops kind rest → Stops kind bytes
moved {kind = kind} e stops = subst (λ (l : List ℕ). Stops kind l) (sym e) stops

-- what the front decides of a reading that goes as far as it can
from_blank : {kind : TextKind} {text bytes rest : List ℕ} {tokens : List Token} → front_of kind bytes ≡ fronts.Blank → Stops kind rest → Reads kind text bytes tokens rest → Reads kind text (drop 1 bytes) tokens rest
from_blank front stops (stays e) = absurd ((moved e stops).at_blank front)
from_blank front stops (blank f r) = r
from_blank front stops (comment f e r) = absurd cc
from_blank front stops (token k n f r) = absurd cc

from_comment : {kind : TextKind} {text bytes behind rest : List ℕ} {tokens : List Token} → front_of kind bytes ≡ fronts.Comment → EndsComment (drop 2 bytes) behind → Stops kind rest → Reads kind text bytes tokens rest → Reads kind text behind tokens rest
from_comment {behind = behind} front closes stops (stays e) = absurd ((moved e stops).at_comment front behind closes)
from_comment front closes stops (blank f r) = absurd cc
from_comment {kind = kind} {text = text} {rest = rest} {tokens = tokens} front closes stops (comment f e r) = subst (λ (l : List ℕ). Reads kind text l tokens rest) (one_end e closes) r
from_comment front closes stops (token k n f r) = absurd cc

record FromToken (kind : TextKind) (text bytes rest : List ℕ) (k : TokenKind) (n : ℕ) (tokens : List Token) : Type 0 where
  others : List Token
  parts : tokens ≡ token_at kind text bytes k n ∷ others
  reads : Reads kind text (drop n bytes) others rest

from_token : {kind : TextKind} {text bytes rest : List ℕ} {tokens : List Token} (k : TokenKind) (n : ℕ) → front_of kind bytes ≡ fronts.Token k n → Stops kind rest → Reads kind text bytes tokens rest → FromToken kind text bytes rest k n tokens
from_token k n front stops (stays e) = absurd ((moved e stops).at_token k n front)
from_token k n front stops (blank f r) = absurd cc
from_token k n front stops (comment f e r) = absurd cc
from_token {kind = kind} {text = text} {bytes = bytes} {rest = rest} k n front stops (token {tokens = others} k' n' f r) =
    let same : fronts.Token k' n' ≡ fronts.Token k n = sym f ∙ front in
    let kinds : k' ≡ k = cc in
    let lens : n' ≡ n = cc in
    record {
      others = others;
      parts = ap (λ (x : TokenKind). token_at kind text bytes x n' ∷ others) kinds ∙ ap (λ (x : ℕ). token_at kind text bytes k x ∷ others) lens;
      reads = subst (λ (x : ℕ). Reads kind text (drop x bytes) others rest) lens r;
    }

-- from where reading can't go on, only nothing is read
from_stop : {kind : TextKind} {text bytes rest : List ℕ} {tokens : List Token} → Stops kind bytes → Reads kind text bytes tokens rest → (tokens ≡ []) × (bytes ≡ rest)
from_stop stops (stays e) = (refl, e)
from_stop stops (blank f r) = absurd (stops.at_blank f)
from_stop stops (comment {behind = behind} f e r) = absurd (stops.at_comment f behind e)
from_stop stops (token k n f r) = absurd (stops.at_token k n f)

-- two readings that go as far as they can are one
one_reading : {kind : TextKind} {text bytes rest rest' : List ℕ} {tokens tokens' : List Token} → Stops kind rest → Stops kind rest' → Reads kind text bytes tokens rest → Reads kind text bytes tokens' rest' → (tokens ≡ tokens') × (rest ≡ rest')
one_reading stops stops' (stays e) also =
    let end = from_stop (moved e stops) also in
    (sym end.0, sym e ∙ end.1)
one_reading stops stops' (blank f r) also = one_reading stops stops' r (from_blank f stops' also)
one_reading stops stops' (comment f e r) also = one_reading stops stops' r (from_comment f e stops' also)
one_reading {kind = kind} {text = text} {bytes = bytes} stops stops' (token k n f r) also =
    let next = from_token k n f stops' also in
    let same = one_reading stops stops' r next.reads in
    (ap (λ (l : List Token). token_at kind text bytes k n ∷ l) same.0 ∙ sym next.parts, same.1)

end_stops : (kind : TextKind) → Stops kind []
unfolding front_of
end_stops kind = record { at_blank = λ f. cc; at_token = λ k n f. cc; at_comment = λ f rest e. cc }

fault_stops : (kind : TextKind) (text bytes : List ℕ) (error : LexError) → BeginsFault kind text bytes error → Stops kind bytes
fault_stops kind text bytes (errors.BadByte place) fault = let front = fault.1 in record { at_blank = λ f. cc; at_token = λ k n f. cc; at_comment = λ f rest e. cc }
fault_stops kind text bytes (errors.OpenComment place) fault = let front = fault.0 in record { at_blank = λ f. cc; at_token = λ k n f. cc; at_comment = λ f rest e. fault.1 rest e }
fault_stops kind text bytes (errors.LiteralPast place) fault = let front = fault.0 in record { at_blank = λ f. cc; at_token = λ k n f. cc; at_comment = λ f rest e. cc }
fault_stops kind text bytes errors.Memory fault = absurd fault

no_fault_at_end : (kind : TextKind) (text : List ℕ) (error : LexError) → BeginsFault kind text [] error → ⊥
unfolding front_of
no_fault_at_end kind text (errors.BadByte place) fault = let front = fault.1 in cc
no_fault_at_end kind text (errors.OpenComment place) fault = let front = fault.0 in cc
no_fault_at_end kind text (errors.LiteralPast place) fault = let front = fault.0 in cc
no_fault_at_end kind text errors.Memory fault = fault

one_fault_here : (kind : TextKind) (text bytes : List ℕ) (e e' : LexError) → BeginsFault kind text bytes e → BeginsFault kind text bytes e' → e ≡ e'
one_fault_here kind text bytes (errors.BadByte p) (errors.BadByte q) a b =
    let same : fronts.BadByte a.0 ≡ fronts.BadByte b.0 = sym a.1 ∙ b.1 in
    let further : a.0 ≡ b.0 = cc in
    ap (λ x. errors.BadByte x) (a.2 ∙ ap (λ (k : ℕ). place_at kind text (offset_of text bytes + k)) further ∙ sym b.2)
one_fault_here kind text bytes (errors.BadByte p) (errors.OpenComment q) a b = let x = a.1 in let y = b.0 in absurd cc
one_fault_here kind text bytes (errors.BadByte p) (errors.LiteralPast q) a b = let x = a.1 in let y = b.0 in absurd cc
one_fault_here kind text bytes (errors.BadByte p) errors.Memory a b = absurd b
one_fault_here kind text bytes (errors.OpenComment p) (errors.BadByte q) a b = let x = a.0 in let y = b.1 in absurd cc
one_fault_here kind text bytes (errors.OpenComment p) (errors.OpenComment q) a b = ap (λ x. errors.OpenComment x) (a.2 ∙ sym b.2)
one_fault_here kind text bytes (errors.OpenComment p) (errors.LiteralPast q) a b = let x = a.0 in let y = b.0 in absurd cc
one_fault_here kind text bytes (errors.OpenComment p) errors.Memory a b = absurd b
one_fault_here kind text bytes (errors.LiteralPast p) (errors.BadByte q) a b = let x = a.0 in let y = b.1 in absurd cc
one_fault_here kind text bytes (errors.LiteralPast p) (errors.OpenComment q) a b = let x = a.0 in let y = b.0 in absurd cc
one_fault_here kind text bytes (errors.LiteralPast p) (errors.LiteralPast q) a b = ap (λ x. errors.LiteralPast x) (a.1 ∙ sym b.1)
one_fault_here kind text bytes (errors.LiteralPast p) errors.Memory a b = absurd b
one_fault_here kind text bytes errors.Memory e' a b = absurd a

pub has_one_reading : (kind : TextKind) (text : List ℕ) → HasOneReading kind text
has_one_reading kind text = record {
  tokens = λ ts us is also. (one_reading (end_stops kind) (end_stops kind) is also).0;
  faults = λ e e' a b.
      let same = one_reading (fault_stops kind text a.1 e a.3) (fault_stops kind text b.1 e' b.3) a.2 b.2 in
      one_fault_here kind text b.1 e e' (subst (λ (l : List ℕ). BeginsFault kind text l e) same.1 a.3) b.3;
  either = λ ts e is fault.
      let same = one_reading (end_stops kind) (fault_stops kind text fault.1 e fault.3) is fault.2 in
      no_fault_at_end kind text e (subst (λ (l : List ℕ). BeginsFault kind text l e) (sym same.1) fault.3);
}
