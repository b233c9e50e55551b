-- The value of digits only grows.
use Rattle.std.proofs.Common.{◌≡◌, ◌≤◌, ◌<◌, ◌+◌, ◌*◌, ◌-◌, ℕ, suc, List, [], ◌∷◌, Bool, true, false, cond, eqb, eqb-true, length, get_or, drop, drop-cons, arith, refl}
use Rattle.lq_text_lexer.specs.Front.{number_from}

number_step : (n d : ℕ) (digits : List ℕ) (b : Bool) → ((m : ℕ) → m ≤ number_from m digits) → n ≤ cond b (number_from n digits) (number_from (n * 10 + (d - 48)) digits)
number_step n d digits true rest = rest n
number_step n d digits false rest = let h = rest (n * 10 + (d - 48)) in omega arith

pub number_grows : (digits : List ℕ) (n : ℕ) → n ≤ number_from n digits
number_grows [] n = omega arith
number_grows (d ∷ digits) n = number_step n d digits (eqb d 95) (number_grows digits)

digit_counts : (n d : ℕ) (digits : List ℕ) (b : Bool) → eqb d 95 ≡ b → (d ≡ 95 → ⊥) → n * 10 + (d - 48) ≤ cond b (number_from n digits) (number_from (n * 10 + (d - 48)) digits)
digit_counts n d digits true e digit = absurd (digit (eqb-true d 95 e))
digit_counts n d digits false e digit = number_grows digits (n * 10 + (d - 48))

-- the value is at least that of the digits read so far and of the next one
pub next_digit : (digits : List ℕ) (i n : ℕ) → i < length digits → (get_or digits i 0 ≡ 95 → ⊥) → n * 10 + (get_or digits i 0 - 48) ≤ number_from n (drop i digits)
next_digit digits i n lt digit = rw (drop-cons digits i 0) (digit_counts n (get_or digits i 0) (drop (suc i) digits) (eqb (get_or digits i 0) 95) refl digit)
