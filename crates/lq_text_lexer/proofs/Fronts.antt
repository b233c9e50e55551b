-- What stands at the front of bytes is within them.
use Rattle.std.proofs.Common.{◌≡◌, ◌≢◌, ◌<◌, ◌≤◌, ◌+◌, ℕ, List, [], ◌∷◌, length, Bool, true, false, cond, eqb, refl, arith}
use Rattle.std.specs.Prelude.{take_while, drop, ◌||◌, codes, nat_lt}
use Rattle.std.specs.List.{prefix_len}
use Rattle.std.proofs.lemmas.Bool.{eqb-false}
use Rattle.std.proofs.lemmas.List.Folds.{length-prefix_len}
use Rattle.std.specs.Str.{bytes_eq}
use Rattle.lq_base_names.specs.declared.place.TextKind.{TextKind}
use Rattle.lq_text_lexer.specs.declared.front.Front.{Front}
use Rattle.lq_text_lexer.specs.declared.front.Front.TheVariants as fronts
use Rattle.lq_text_lexer.specs.Bytes.{is_blank, is_digit, begins_lower, begins_upper, is_name_byte, is_number_byte}
use Rattle.lq_text_lexer.specs.Symbols.{symbol_len, is_triple, is_pair, is_single}
use Rattle.lq_text_lexer.specs.Front.{run, front_of, token_front, word_front, quote_front, is_type_variable, number_front, number_from, literal_front, begins_letter, symbol_front, symbol_of_len, is_opening, FitsIn}

-- by the two ways that a test goes
choose : (P : Front → Type 0) (b : Bool) (x y : Front) → (b ≡ true → P x) → (b ≡ false → P y) → P (cond b x y)
choose P true x y f g = f refl
choose P false x y f g = g refl

-- ---- runs
prefix_within : (p : ℕ → Bool) (bytes : List ℕ) → prefix_len p bytes ≤ length bytes
prefix_within p [] = omega arith
prefix_within p (b ∷ bytes) = by_test (p b) (prefix_within p bytes)
  where
    by_test : (t : Bool) → prefix_len p bytes ≤ length bytes → cond t (1 + prefix_len p bytes) 0 ≤ length (b ∷ bytes)
    by_test true h = omega arith
    by_test false h = omega arith

run_within : (p : ℕ → Bool) (bytes : List ℕ) → run p bytes ≤ length bytes
run_within p bytes = omega (arith, length-prefix_len p bytes, prefix_within p bytes)

run_some : (p : ℕ → Bool) (b : ℕ) (bytes : List ℕ) → p b ≡ true → 0 < run p (b ∷ bytes)
run_some p b bytes e =
    let some : prefix_len p (b ∷ bytes) ≡ 1 + prefix_len p bytes = rw e refl in
    omega (arith, length-prefix_len p (b ∷ bytes), some)

lower_tests : (x y u d q : Bool) → (x || y) ≡ true → ((((x || u) || d) || y) || q) ≡ true
lower_tests true y u d q e = refl
lower_tests false true true d q e = refl
lower_tests false true false true q e = refl
lower_tests false true false false q e = refl
lower_tests false false u d q e = absurd cc

lower_is_name : (b : ℕ) → begins_lower b ≡ true → is_name_byte b ≡ true
lower_is_name b e = lower_tests _ (eqb b 95) _ (is_digit b) (eqb b 39) e

upper_tests : (x u d y q : Bool) → u ≡ true → ((((x || u) || d) || y) || q) ≡ true
upper_tests true u d y q e = refl
upper_tests false true d y q e = refl
upper_tests false false d y q e = absurd cc

upper_is_name : (b : ℕ) → begins_upper b ≡ true → is_name_byte b ≡ true
upper_is_name b e = upper_tests _ (begins_upper b) (is_digit b) (eqb b 95) (eqb b 39) e

digit_is_number : (b : ℕ) → is_digit b ≡ true → is_number_byte b ≡ true
digit_is_number b e = rw e refl

-- ---- fronts
word_fits : (kind : TextKind) (word bytes : List ℕ) → 0 < length word → length word ≤ length bytes → FitsIn (word_front kind word) bytes
unfolding word_front
word_fits kind word bytes some within =
    choose (λ (f : Front). FitsIn f bytes) (bytes_eq word (codes "_")) _ _
    (λ e. record { within = omega arith; some = omega arith })
    (λ e. record { within = within; some = some })

quote_fits : (b : ℕ) (bytes : List ℕ) → FitsIn (quote_front bytes) (b ∷ bytes)
unfolding quote_front
quote_fits b bytes =
    choose (λ (f : Front). FitsIn f (b ∷ bytes)) (is_type_variable bytes) _ _
    (λ e. let h = run_within is_name_byte bytes in record { within = omega arith; some = omega arith })
    (λ e. record { within = omega arith; some = tt })

literal_fits : (value len : ℕ) (behind bytes : List ℕ) → 0 < len → len ≤ length bytes → FitsIn (literal_front value len behind) bytes
literal_fits value len behind bytes some within =
    choose (λ (f : Front). FitsIn f bytes) (nat_lt 170141183460469231731687303715884105728 value) _ _
    (λ e. record { within = omega arith; some = tt })
    (λ e. choose (λ (f : Front). FitsIn f bytes) (begins_letter behind) _ _ (λ l. record { within = within; some = tt }) (λ l. record { within = within; some = some }))

number_fits : (bytes : List ℕ) → 0 < run is_number_byte bytes → FitsIn (number_front bytes) bytes
unfolding number_front
number_fits bytes some = literal_fits (number_from 0 (take_while is_number_byte bytes)) (run is_number_byte bytes) (drop (run is_number_byte bytes) bytes) bytes some (run_within is_number_byte bytes)

symbol_within : (bytes : List ℕ) → symbol_len bytes ≤ length bytes
unfolding symbol_len
symbol_within [] = omega arith
symbol_within (a ∷ []) = by_single (is_single a)
  where
    by_single : (t : Bool) → cond t 1 0 ≤ 1
    by_single true = omega arith
    by_single false = omega arith
symbol_within (a ∷ b ∷ []) = by_pair (is_pair a b) (is_single a)
  where
    by_pair : (t u : Bool) → cond t 2 (cond u 1 0) ≤ 2
    by_pair true u = omega arith
    by_pair false true = omega arith
    by_pair false false = omega arith
symbol_within (a ∷ b ∷ c ∷ bytes) = by_triple (is_triple a b c) (is_pair a b) (is_single a)
  where
    by_triple : (s t u : Bool) → cond s 3 (cond t 2 (cond u 1 0)) ≤ length (a ∷ b ∷ c ∷ bytes)
    by_triple true t u = omega arith
    by_triple false true u = omega arith
    by_triple false false true = omega arith
    by_triple false false false = omega arith

symbol_fits_len : (len : ℕ) (bytes : List ℕ) → len ≤ length bytes → FitsIn (symbol_of_len len) bytes
symbol_fits_len len bytes within =
    choose (λ (f : Front). FitsIn f bytes) (eqb len 0) _ _
    (λ e. record { within = omega arith; some = tt })
    (λ e. let some : len ≢ 0 = eqb-false len 0 e in record { within = within; some = omega arith })

symbol_fits : (bytes : List ℕ) → FitsIn (symbol_front bytes) bytes
unfolding symbol_front
symbol_fits bytes = symbol_fits_len (symbol_len bytes) bytes (symbol_within bytes)

token_fits : (kind : TextKind) (b : ℕ) (bytes : List ℕ) → FitsIn (token_front kind b bytes) (b ∷ bytes)
unfolding token_front
token_fits kind b bytes =
    choose (λ (f : Front). FitsIn f (b ∷ bytes)) (begins_lower b) _ _
    (λ e. word_fits kind _ (b ∷ bytes) (run_some is_name_byte b bytes (lower_is_name b e)) (run_within is_name_byte (b ∷ bytes)))
    (λ l. choose (λ (f : Front). FitsIn f (b ∷ bytes)) (begins_upper b) _ _
    (λ e. record { within = run_within is_name_byte (b ∷ bytes); some = run_some is_name_byte b bytes (upper_is_name b e) })
    (λ u. choose (λ (f : Front). FitsIn f (b ∷ bytes)) (eqb b 39) _ _
    (λ e. quote_fits b bytes)
    (λ q. choose (λ (f : Front). FitsIn f (b ∷ bytes)) (is_digit b) _ _
    (λ e. number_fits (b ∷ bytes) (run_some is_number_byte b bytes (digit_is_number b e)))
    (λ d. symbol_fits (b ∷ bytes)))))

opening_within : (bytes : List ℕ) → is_opening bytes ≡ true → 2 ≤ length bytes
opening_within [] e = absurd cc
opening_within (a ∷ []) e = absurd cc
opening_within (a ∷ b ∷ bytes) e = omega arith

pub front_fits : (kind : TextKind) (bytes : List ℕ) → FitsIn (front_of kind bytes) bytes
unfolding front_of
front_fits kind [] = record { within = omega arith; some = tt }
front_fits kind (b ∷ bytes) =
    choose (λ (f : Front). FitsIn f (b ∷ bytes)) (is_blank b) _ _
    (λ e. record { within = omega arith; some = tt })
    (λ n. choose (λ (f : Front). FitsIn f (b ∷ bytes)) (is_opening (b ∷ bytes)) _ _
    (λ e. record { within = opening_within (b ∷ bytes) e; some = tt })
    (λ o. token_fits kind b bytes))

-- ---- only the end has nothing in front
IsNoEnd : Front → Type 0
IsNoEnd f = f ≡ fronts.End → ⊥

token_no_end : (kind : TextKind) (b : ℕ) (bytes : List ℕ) → token_front kind b bytes ≡ fronts.End → ⊥
unfolding token_front word_front quote_front number_front symbol_front IsNoEnd
token_no_end kind b bytes =
    choose IsNoEnd (begins_lower b) _ _
    (λ e. choose IsNoEnd (bytes_eq (take_while is_name_byte (b ∷ bytes)) (codes "_")) _ _ (λ t h. cc) (λ t h. cc))
    (λ l. choose IsNoEnd (begins_upper b) _ _
    (λ e h. cc)
    (λ u. choose IsNoEnd (eqb b 39) _ _
    (λ e. choose IsNoEnd (is_type_variable bytes) _ _ (λ t h. cc) (λ t h. cc))
    (λ q. choose IsNoEnd (is_digit b) _ _
    (λ e. choose IsNoEnd (nat_lt 170141183460469231731687303715884105728 (number_from 0 (take_while is_number_byte (b ∷ bytes)))) _ _ (λ t h. cc) (λ t. choose IsNoEnd (begins_letter (drop (run is_number_byte (b ∷ bytes)) (b ∷ bytes))) _ _ (λ k h. cc) (λ k h. cc)))
    (λ d. choose IsNoEnd (eqb (symbol_len (b ∷ bytes)) 0) _ _ (λ t h. cc) (λ t h. cc)))))

pub front_at_end : (kind : TextKind) (bytes : List ℕ) → front_of kind bytes ≡ fronts.End → bytes ≡ []
unfolding front_of IsNoEnd
front_at_end kind [] e = refl
front_at_end kind (b ∷ bytes) e = absurd (
    choose IsNoEnd (is_blank b) fronts.Blank (cond (is_opening (b ∷ bytes)) fronts.Comment (token_front kind b bytes)) (λ t h. cc)
    (λ t. choose IsNoEnd (is_opening (b ∷ bytes)) fronts.Comment (token_front kind b bytes) (λ o h. cc) (λ o h. token_no_end kind b bytes h)) e)
