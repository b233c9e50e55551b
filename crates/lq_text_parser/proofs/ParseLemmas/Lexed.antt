-- What is known of the tokens of a text.
use Rattle.std.specs.Prelude.{take_while, nat_lt, slice_get}
use Rattle.std.specs.List.{prefix_len}
use Rattle.std.specs.Str.{IsAscii, bytes_eq}
use Rattle.std.proofs.Common.{◌≡◌, ◌≤◌, ◌<◌, ◌+◌, ◌-◌, ℕ, zero, suc, List, [], ◌∷◌, Bool, true, false, cond, eqb, eqb-true, Option, Some, None, length, length-drop, take, drop, get_or, arith, refl, sym, ap, ◌∙◌, subst, codes}
use Rattle.std.proofs.lemmas.Bool.Decides.{nat_tests}
use Rattle.std.proofs.lemmas.List.{drop-drop}
use Rattle.std.proofs.lemmas.List.Folds.{length-prefix_len}
use Rattle.std.proofs.lemmas.Str.Ascii.{IsAscii-from_reads}
use Rattle.lq_base_names.specs.declared.limits.TheConstants.{LITERAL_LIMIT}
use Rattle.lq_base_names.specs.declared.place.TextKind.{TextKind}
use Rattle.lq_text_lexer.specs.declared.token.Token.{Token}
use Rattle.lq_text_lexer.specs.declared.token.TokenKind.{TokenKind}
use Rattle.lq_text_lexer.specs.declared.token.TokenKind.TheVariants as kinds
use Rattle.lq_text_lexer.specs.Bytes.{is_blank, is_digit, begins_lower, begins_upper, is_name_byte, is_number_byte}
use Rattle.lq_text_lexer.specs.Comments.{EndsComment, ends, nests, passes}
use Rattle.lq_text_lexer.specs.Front.{run, front_of, token_front, word_kind, word_front, quote_front, is_type_variable, number_front, number_from, begins_letter, symbol_front, is_opening, FitsIn}
use Rattle.lq_text_lexer.specs.Reading.{offset_of, token_at, Reads, stays, blank, comment, token, IsTokens}
use Rattle.lq_text_lexer.specs.Keywords.{keyword_of}
use Rattle.lq_text_lexer.specs.Symbols.{symbol_len}
use Rattle.lq_text_lexer.specs.declared.keyword.Keyword.{Keyword}
use Rattle.lq_text_lexer.proofs.Fronts.{front_fits}
use Rattle.lq_text_parser.specs.Parse.Lexemes.{HasNameBytes}
use Rattle.lq_text_parser.specs.Parse.Terminals.{bytes_of}

-- ---- fronts
-- by the two ways that a test goes
by_two : {F Q : Type 0} (b : Bool) {x y z : F} → cond b x y ≡ z → (b ≡ true → x ≡ z → Q) → (b ≡ false → y ≡ z → Q) → Q
by_two true e f g = f refl e
by_two false e f g = g refl e

byte_is_ascii : (b : ℕ) → is_name_byte b ≡ true → b < 128
byte_is_ascii b e = grind (arith, nat_tests)

-- each of these is a byte of ASCII
abbrev AreAscii : List ℕ → Type 0
AreAscii [] = Unit {0}
AreAscii (b ∷ bytes) = (b < 128) × AreAscii bytes

first_more : (b : ℕ) (bytes : List ℕ) (k : ℕ) → b < 128 → AreAscii (take k bytes) → AreAscii (take (1 + k) (b ∷ bytes))
first_more b bytes k h all = let e : suc k ≡ 1 + k = omega arith in subst (λ (n : ℕ). AreAscii (take n (b ∷ bytes))) e (h, all)

one_front : (b : ℕ) (bytes : List ℕ) → AreAscii (take (prefix_len is_name_byte bytes) bytes) → (t : Bool) → is_name_byte b ≡ t → AreAscii (take (cond t (1 + prefix_len is_name_byte bytes) 0) (b ∷ bytes))
one_front b bytes rest true e = first_more b bytes (prefix_len is_name_byte bytes) (byte_is_ascii b e) rest
one_front b bytes rest false e = tt

front_is_ascii : (bytes : List ℕ) → AreAscii (take (prefix_len is_name_byte bytes) bytes)
front_is_ascii [] = tt
front_is_ascii (b ∷ bytes) = one_front b bytes (front_is_ascii bytes) (is_name_byte b) refl

all_ascii : (bytes : List ℕ) → AreAscii (take (run is_name_byte bytes) bytes)
all_ascii bytes = subst (λ n. AreAscii (take n bytes)) (sym (length-prefix_len is_name_byte bytes)) (front_is_ascii bytes)

read_ascii : (bytes : List ℕ) (k : ℕ) → AreAscii bytes → k < length bytes → get_or bytes k 0 < 128
read_ascii [] k all h = absurd (omega arith)
read_ascii (b ∷ bytes) zero all h = all.0
read_ascii (b ∷ bytes) (suc k) all h = read_ascii bytes k all.1 (omega arith)

is_ascii : (bytes : List ℕ) → AreAscii bytes → IsAscii bytes
is_ascii bytes all = IsAscii-from_reads bytes (length bytes) (omega arith) (λ k h. read_ascii bytes k all h)

-- where a token is a number, it is at most the limit
abbrev pub HasSmallValue : TokenKind → Type 0
HasSmallValue (kinds.Number v) = v ≤ LITERAL_LIMIT
HasSmallValue _ = Unit {0}

-- what is known of a token of this kind with these bytes
abbrev Says : TokenKind → List ℕ → Type 0
Says k word = HasNameBytes k word × HasSmallValue k

word_says : (o : Option Keyword) (word : List ℕ) → IsAscii word → Says (word_kind o) word
word_says None word ascii = (ascii, tt)
word_says (Some k) word ascii = (tt, tt)

same_says : (j k : TokenKind) (m n : ℕ) (bytes : List ℕ) → j ≡ k → m ≡ n → Says j (take m bytes) → Says k (take n bytes)
same_says j k m n bytes e f says = subst (λ (i : TokenKind). Says i (take n bytes)) e (subst (λ (l : ℕ). Says j (take l bytes)) f says)

-- ---- tokens
-- the token's bytes are those of a name where it is one, and a number is at most the limit
pub record IsToken (text : List ℕ) (t : Token) : Type 0 where
  pub name : HasNameBytes t.kind (bytes_of text t)
  pub value : HasSmallValue t.kind

abbrev pub AreTokens : List ℕ → List Token → Type 0
AreTokens text [] = Unit {0}
AreTokens text (t ∷ ts) = IsToken text t × AreTokens text ts

pub one_token : (text : List ℕ) (ts : List Token) (i : ℕ) (t : Token) → AreTokens text ts → slice_get ts i ≡ Some t → IsToken text t
one_token text [] i t all e = absurd cc
one_token text (u ∷ ts) zero t all e = let same : u ≡ t = cc in subst (λ x. IsToken text x) same all.0
one_token text (u ∷ ts) (suc i) t all e = one_token text ts i t all.1 e

not_above : (v : ℕ) → nat_lt LITERAL_LIMIT v ≡ false → v ≤ LITERAL_LIMIT
not_above v e = grind (arith, nat_tests)

behind_comment : {bytes rest : List ℕ} → EndsComment bytes rest → (n : ℕ) × (rest ≡ drop n bytes)
behind_comment (ends m e) = (2, e)
behind_comment {bytes = bytes} (nests m e f) =
    let inner = behind_comment e in
    let outer = behind_comment f in
    ((2 + inner.0) + outer.0, outer.1 ∙ ap (drop outer.0) (inner.1 ∙ drop-drop inner.0 2 bytes) ∙ drop-drop outer.0 (2 + inner.0) bytes)
behind_comment {bytes = bytes} (passes m e) = let inner = behind_comment e in (1 + inner.0, inner.1 ∙ drop-drop inner.0 1 bytes)

is_token : (kind : TextKind) (text : List ℕ) (at : ℕ) (k : TokenKind) (n : ℕ) → n ≤ length (drop at text) → 0 < n → Says k (take n (drop at text)) → IsToken text (token_at kind text (drop at text) k n)
is_token kind text at k n within some says =
    let offset : offset_of text (drop at text) ≡ at = omega (arith, length-drop at text) in
    let len : (offset_of text (drop at text) + n) - offset_of text (drop at text) ≡ n = omega arith in
    let same : bytes_of text (token_at kind text (drop at text) k n) ≡ take n (drop at text) = ap (λ (m : ℕ). take m (drop (offset_of text (drop at text)) text)) len ∙ ap (λ (o : ℕ). take n (drop o text)) offset in
    record { name = subst (λ (w : List ℕ). HasNameBytes k w) (sym same) says.0; value = says.1 }

are_tokens : {kind : TextKind} {text bytes rest : List ℕ} {tokens : List Token} (at : ℕ) → bytes ≡ drop at text → Reads kind text bytes tokens rest → AreTokens text tokens
unfolding front_of token_front word_front quote_front number_front symbol_front
are_tokens at is (stays e) = tt
are_tokens {text = text} at is (blank f r) = are_tokens (at + 1) (ap (drop 1) is ∙ drop-drop 1 at text) r
are_tokens {text = text} at is (comment f e r) =
    let inner = behind_comment e in
    are_tokens ((at + 2) + inner.0) (inner.1 ∙ ap (λ (l : List ℕ). drop inner.0 (drop 2 l)) is ∙ ap (drop inner.0) (drop-drop 2 at text) ∙ drop-drop inner.0 (at + 2) text) r
are_tokens {bytes = []} at is (token k n f r) = absurd cc
are_tokens {kind = kind} {text = text} {bytes = b ∷ bytes} at is (token k n f r) =
    let fits = subst (λ x. FitsIn x (b ∷ bytes)) f (front_fits kind (b ∷ bytes)) in
    let says : Says k (take n (b ∷ bytes)) =
    by_two (is_blank b) f (λ t e. absurd cc)
    (λ t e. by_two (is_opening (b ∷ bytes)) e (λ t e. absurd cc)
    (λ t e. by_two (begins_lower b) e
    (λ t e. by_two (bytes_eq (take_while is_name_byte (b ∷ bytes)) (codes "_")) e
    (λ t e. same_says kinds.Symbol k 1 n (b ∷ bytes) (cc) (cc) (tt, tt))
    (λ t e. same_says (word_kind (keyword_of kind (take_while is_name_byte (b ∷ bytes)))) k (run is_name_byte (b ∷ bytes)) n (b ∷ bytes) (cc) (cc) (word_says _ _ (is_ascii _ (all_ascii (b ∷ bytes))))))
    (λ t e. by_two (begins_upper b) e
    (λ t e. same_says kinds.Upper k (run is_name_byte (b ∷ bytes)) n (b ∷ bytes) (cc) (cc) (is_ascii _ (all_ascii (b ∷ bytes)), tt))
    (λ t e. by_two (eqb b 39) e
    (λ q e. by_two (is_type_variable bytes) e
    (λ t e. let quote : b ≡ 39 = eqb-true b 39 q in let first : b < 128 = omega arith in
    same_says kinds.TypeVar k (1 + run is_name_byte bytes) n (b ∷ bytes) (cc) (cc) (is_ascii _ (first_more b bytes (run is_name_byte bytes) first (all_ascii bytes)), tt))
    (λ t e. absurd cc))
    (λ t e. by_two (is_digit b) e
    (λ t e. by_two (nat_lt LITERAL_LIMIT (number_from 0 (take_while is_number_byte (b ∷ bytes)))) e
    (λ t e. absurd cc)
    (λ low e. by_two (begins_letter (drop (run is_number_byte (b ∷ bytes)) (b ∷ bytes))) e
    (λ t e. absurd cc)
    (λ t e. same_says (kinds.Number (number_from 0 (take_while is_number_byte (b ∷ bytes)))) k (run is_number_byte (b ∷ bytes)) n (b ∷ bytes) (cc) (cc) (tt, not_above _ low))))
    (λ t e. by_two (eqb (symbol_len (b ∷ bytes)) 0) e
    (λ t e. absurd cc)
    (λ t e. same_says kinds.Symbol k (symbol_len (b ∷ bytes)) n (b ∷ bytes) (cc) (cc) (tt, tt)))))))) in
    let within : n ≤ length (b ∷ bytes) = fits.within in
    let some : 0 < n = fits.some in
    let here : IsToken text (token_at kind text (drop at text) k n) = is_token kind text at k n (subst (λ (l : List ℕ). n ≤ length l) is within) some (subst (λ (l : List ℕ). Says k (take n l)) is says) in
    (subst (λ (l : List ℕ). IsToken text (token_at kind text l k n)) (sym is) here, are_tokens (at + n) (ap (drop n) is ∙ drop-drop n at text) r)

-- each token has a byte
few_tokens : {kind : TextKind} {text bytes rest : List ℕ} {tokens : List Token} → Reads kind text bytes tokens rest → length tokens ≤ length bytes
few_tokens (stays e) = omega arith
few_tokens {bytes = bytes} (blank f r) = let h = few_tokens r in omega (arith, length-drop 1 bytes)
few_tokens {bytes = bytes} (comment {behind = behind} f e r) =
    let inner = behind_comment e in
    let h = few_tokens r in
    omega (arith, ap length inner.1, length-drop inner.0 (drop 2 bytes), length-drop 2 bytes)
few_tokens {kind = kind} {bytes = bytes} (token k n f r) =
    let h = few_tokens r in
    let fits = subst (λ x. FitsIn x bytes) f (front_fits kind bytes) in
    let within : n ≤ length bytes = fits.within in
    let some : 0 < n = fits.some in
    omega (arith, length-drop n bytes)

pub tokens_are : (kind : TextKind) (text : List ℕ) (tokens : List Token) → IsTokens kind text tokens → AreTokens text tokens
tokens_are kind text tokens r = are_tokens 0 refl r

pub tokens_within : (kind : TextKind) (text : List ℕ) (tokens : List Token) → IsTokens kind text tokens → length tokens ≤ length text
tokens_within kind text tokens r = few_tokens r
