-- The bounds that rows give forms.
use Rattle.std.specs.Prelude.{◌≡◌, ℤ, pos, ◌⊎◌, true}
use Rattle.std.specs.Int.Signed.{◌<ℤ◌}
use Rattle.lq_base_numbers.specs.Rationals.Rational.{ℚ, whole, ◌*ℚ◌, neg_ℚ}
use Rattle.lq_base_numbers.specs.Rationals.RationalOrder.{◌≤ℚ◌, ◌<ℚ◌}
use Rattle.lq_logic_rows.specs.declared.bound.Side.{Side}
use Rattle.lq_logic_rows.specs.declared.bound.Side.TheVariants.{Lower, Upper}
use Rattle.lq_logic_rows.specs.Row.{Row}
use Rattle.lq_logic_rows.specs.Forms.{Parts, IsMultiple}

abbrev pub other : Side → Side
other Lower = Upper
other Upper = Lower

-- a value keeps to a bound, or breaks it
abbrev pub Within : Side → ℚ → ℚ → Type 0
Within Lower value bound = bound ≤ℚ value
Within Upper value bound = value ≤ℚ bound

abbrev pub Beyond : Side → ℚ → ℚ → Type 0
Beyond Lower value bound = value <ℚ bound
Beyond Upper value bound = bound <ℚ value

-- so many times the form plus the constant is at most 0: from above where that is a positive multiple, else from below
abbrev pub BoundsOn : Side → ℤ → Type 0
BoundsOn Lower factor = factor <ℤ pos 0
BoundsOn Upper factor = pos 0 <ℤ factor

-- the row is a multiple of the form, and bounds it on this side, an equation on both, by its negated constant divided by the
-- multiple: by the constant, negated where the first coefficient is positive, divided by the divisor of the coefficients
pub record Bounds (form : Parts) (row : Row) (side : Side) (x : ℚ) : Type 0 where
  pub multiple : IsMultiple form row.parts
  pub on : (row.equal ≡ true) ⊎ BoundsOn side multiple.factor
  pub is : whole multiple.factor *ℚ x ≡ neg_ℚ (whole row.constant)
