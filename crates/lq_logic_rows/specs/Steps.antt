-- How the level of a row is formed: member by member, each product before its sum, the constant last.
use Rattle.std.specs.Prelude.{◌≡◌, ℕ, ℤ, pos, List, Option, Some, None, take, slice_get, ◌<◌, length, All}
use Rattle.lq_base_numbers.specs.Rationals.Rational.{ℚ, whole, ◌*ℚ◌}
use Rattle.lq_base_numbers.specs.declared.fractions.frac.Frac.{Frac}
use Rattle.lq_base_numbers.specs.declared.fractions.past.NumberPast.{NumberPast}
use Rattle.lq_base_numbers.specs.declared.fractions.past.NumOp.{NumOp}
use Rattle.lq_base_numbers.specs.declared.fractions.past.NumOp.TheVariants.{Add, Mul}
use Rattle.lq_base_numbers.specs.Fractions.Past.{IsPast}
use Rattle.lq_base_numbers.specs.Fractions.Value.{value_of}
use Rattle.lq_logic_rows.specs.Row.{Row, Valuation, sum_at}

-- a value for each term's number, and 0 past the list
abbrev pub value_or_zero : Option Frac → ℚ
value_or_zero (Some f) = value_of f
value_or_zero None = whole (pos 0)

abbrev pub valuation_of : List Frac → Valuation
valuation_of values q = value_or_zero (slice_get values q)

-- each term of the row has a value
abbrev pub HasValues : Row → List Frac → Type 0
HasValues row values = All (λ part. part.0 < length values) row.parts

-- the operations by which the level of a row is formed, with their operands
pub data IsStep (v : Valuation) (row : Row) : NumOp → ℚ → ℚ → Type 0 where
  member_product : (k term : ℕ) (coefficient : ℤ) → slice_get row.parts k ≡ Some (term, coefficient)
      → IsStep v row Mul (whole coefficient) (v term)
  member_sum : (k term : ℕ) (coefficient : ℤ) → slice_get row.parts k ≡ Some (term, coefficient)
      → IsStep v row Add (sum_at v (take k row.parts)) (whole coefficient *ℚ v term)
  constant_sum : IsStep v row Add (sum_at v row.parts) (whole row.constant)

-- none of these operations is past 128 bits
abbrev pub IsFormed : Valuation → Row → Type 0
IsFormed v row = (e : NumberPast) → IsStep v row e.op (value_of e.left) (value_of e.right) → ¬ IsPast e
