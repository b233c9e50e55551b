-- Rows, and what they say at a valuation of their terms.
use Rattle.std.specs.Prelude.{◌≡◌, ◌≢◌, ℕ, suc, ℤ, pos, ◌≤◌, Bool, List, [], ◌∷◌, All, MatchBool}
use Rattle.lq_base_numbers.specs.Rationals.Rational.{ℚ, whole, ◌+ℚ◌, ◌*ℚ◌}
use Rattle.lq_base_numbers.specs.Rationals.RationalOrder.{◌≤ℚ◌}

-- pairs of a term's number and its coefficient, and beside them a constant: the row is read "the sum plus the
-- constant is at most 0", or "is 0" where `equal` is set
pub record Row : Type 0 where
  pub parts : List (ℕ × ℤ)
  pub constant : ℤ
  pub equal : Bool

-- the numbers ascend, each at least `low`
abbrev pub AscendsFrom : ℕ → List (ℕ × ℤ) → Type 0
AscendsFrom low [] = Unit {0}
AscendsFrom low (part ∷ parts) = (low ≤ part.0) × AscendsFrom (suc part.0) parts

-- the terms stand by ascending number, each once, and none has the coefficient 0
pub record IsRow (row : Row) : Type 0 where
  pub ascending : AscendsFrom 0 row.parts
  pub nonzero : All (λ part. part.1 ≢ pos 0) row.parts

-- a rational for each term's number
abbrev pub Valuation : Type 0
Valuation = ℕ → ℚ

abbrev pub sum_at : Valuation → List (ℕ × ℤ) → ℚ
sum_at v [] = whole (pos 0)
sum_at v (part ∷ parts) = whole part.1 *ℚ v part.0 +ℚ sum_at v parts

-- the sum plus the constant
abbrev pub level : Valuation → Row → ℚ
level v row = sum_at v row.parts +ℚ whole row.constant

abbrev pub RowHolds : Valuation → Row → Type 0
RowHolds v row = MatchBool row.equal (level v row ≡ whole (pos 0)) (level v row ≤ℚ whole (pos 0))
