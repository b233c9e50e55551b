-- Variables, and the bounds that rows give them.
use Rattle.std.specs.Prelude.{ℕ, ◌<◌, List, [], Contains, length, slice_index_or}
use Rattle.lq_base_numbers.specs.Rationals.Rational.{ℚ}
use Rattle.lq_logic_rows.specs.Row.{Row, Valuation, sum_at}
use Rattle.lq_logic_rows.specs.Forms.{Parts}
use Rattle.lq_logic_rows.specs.declared.bound.Side.{Side}
use Rattle.lq_logic_rows.specs.Bounds.{Beyond, Bounds}

-- the variables by their numbers: the terms, as forms of one part, then the rows' forms of two or more terms
pub record Variables : Type 0 where
  pub terms : ℕ
  pub forms : List Parts

abbrev pub size : Variables → ℕ
size vs = length vs.forms

abbrev pub form : Variables → ℕ → Parts
form vs k = slice_index_or vs.forms k []

-- what each variable is at a valuation of the terms
abbrev pub at : Variables → Valuation → ℕ → ℚ
at vs v k = sum_at v (form vs k)

-- one of the rows bounds the variable on this side by this value
pub record Gives (vs : Variables) (rows : List Row) (side : Side) (k : ℕ) (x : ℚ) : Type 0 where
  pub row : Row
  pub there : Contains rows row
  pub inside : k < size vs
  pub bounds : Bounds (form vs k) row side x

-- the value breaks a bound of the variable that one of the rows gives
pub record Breaks (vs : Variables) (rows : List Row) (k : ℕ) (value : ℚ) : Type 0 where
  pub side : Side
  pub bound : ℚ
  pub given : Gives vs rows side k bound
  pub beyond : Beyond side value bound
