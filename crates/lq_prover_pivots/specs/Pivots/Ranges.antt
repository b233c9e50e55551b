-- Sums and counts over the numbers below n.
use Rattle.std.specs.Prelude.{ℕ, zero, suc, pos, ◌+◌, Bool, true, false}
use Rattle.lq_base_numbers.specs.Rationals.Rational.{ℚ, whole, ◌+ℚ◌, ◌*ℚ◌}

abbrev pub sum_below : ℕ → (ℕ → ℚ) → ℚ
sum_below zero f = whole (pos 0)
sum_below (suc n) f = sum_below n f +ℚ f n

abbrev pub one_if : Bool → ℕ
one_if true = 1
one_if false = 0

abbrev pub count_below : ℕ → (ℕ → Bool) → ℕ
count_below zero is_in = 0
count_below (suc n) is_in = count_below n is_in + one_if (is_in n)

abbrev pub only_if : Bool → ℚ → ℚ
only_if true x = x
only_if false x = whole (pos 0)

-- the sum of a j times x j over the members j below n
abbrev pub combine : ℕ → (ℕ → Bool) → (ℕ → ℚ) → (ℕ → ℚ) → ℚ
combine n is_in a x = sum_below n (λ j. only_if (is_in j) (a j *ℚ x j))
