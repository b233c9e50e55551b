-- Whole values near 0 and near one another.
use Rattle.std.specs.Prelude.{◌≡◌, ℕ, ℤ, ◌<◌, ◌≤◌, ◌-ℤ◌, unsigned_abs}
use Rattle.lq_base_numbers.specs.Rationals.Rational.{whole}
use Rattle.lq_logic_rows.specs.Row.{Valuation}

-- The values of the terms below a number are whole, and none of them and no difference of two is larger in size than n.
pub record IsNear (n terms : ℕ) (v : Valuation) : Type 0 where
  pub at : ℕ → ℤ
  pub whole_at : (k : ℕ) → k < terms → v k ≡ whole (at k)
  pub value : (k : ℕ) → k < terms → unsigned_abs (at k) ≤ n
  pub difference : (j k : ℕ) → j < terms → k < terms → unsigned_abs (at j -ℤ at k) ≤ n
