-- Whole numbers of bounded size among the rationals.
use Rattle.std.specs.Prelude.{◌≡◌, ℕ, ℤ, zero, suc, ◌*◌, ◌^◌, ◌≤◌, unsigned_abs}
use Rattle.lq_base_numbers.specs.Rationals.Rational.{ℚ, whole}

-- whole, and of size at most the limit
pub record WithinWhole (limit : ℕ) (x : ℚ) : Type 0 where
  pub number : ℤ
  pub is : x ≡ whole number
  pub within : unsigned_abs number ≤ limit

abbrev pub factorial : ℕ → ℕ
factorial zero = 1
factorial (suc k) = suc k * factorial k

-- k! * c^k
abbrev pub limit : ℕ → ℕ → ℕ
limit k c = factorial k * c ^ k
