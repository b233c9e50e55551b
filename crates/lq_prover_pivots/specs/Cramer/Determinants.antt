-- Determinants, by expansion along the first column.
use Rattle.std.specs.Prelude.{ℕ, zero, suc, pos, ◌==◌, if◌then◌else◌}
use Rattle.lq_base_numbers.specs.Rationals.Rational.{ℚ, whole, ◌*ℚ◌, neg_ℚ}
use Rattle.lq_prover_pivots.specs.Pivots.Ranges.{sum_below}

-- the entry of a row (first) and a column (second)
abbrev pub Rows : Type 0
Rows = ℕ → ℕ → ℚ

-- the number at place a among the numbers other than k
abbrev pub past : ℕ → ℕ → ℕ
past zero a = suc a
past (suc k) zero = zero
past (suc k) (suc a) = suc (past k a)

-- row k and the first column are left out
abbrev pub without : ℕ → Rows → Rows
without k rows a b = rows (past k a) (suc b)

-- 1 and -1 by turns
abbrev pub sign : ℕ → ℚ
sign zero = whole (pos 1)
sign (suc k) = neg_ℚ (sign k)

-- the determinant of the first n rows and columns
abbrev pub det : ℕ → Rows → ℚ
det zero rows = whole (pos 1)
det (suc n) rows = sum_below (suc n) (λ k. sign k *ℚ rows k 0 *ℚ det n (without k rows))

-- row i is replaced
abbrev pub put : Rows → ℕ → (ℕ → ℚ) → Rows
put rows i row a b = if a == i then row b else rows a b
