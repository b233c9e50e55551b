-- Points at the flags and objects of a path.
use Rattle.std.specs.Prelude.{◌≡◌, ◌↔◌, ◌⊎◌, ℕ, Bool, false, List, Option, Some, None, slice_get}
use Rattle.lq_prover_case.specs.State.Flags.{find_given}
use Rattle.lq_prover_case.specs.State.PathState.{PathState, objects_in}
use Rattle.lq_prover_case.specs.declared.state.flags.Given.{Given}
use Rattle.lq_logic_rows.specs.Row.{Row, Valuation}
use Rattle.lq_logic_rows.specs.Steps.{IsStep}
use Rattle.lq_base_numbers.specs.Fractions.Past.{IsPast}
use Rattle.lq_base_numbers.specs.Fractions.Value.{value_of}
use Rattle.lq_base_numbers.specs.declared.fractions.past.NumberPast.{NumberPast}
use Rattle.lq_prover_case.specs.Objects.Joined.{AreOne}
use Rattle.lq_logic_predicates.specs.Points.{Point}
use Rattle.lq_logic_predicates.specs.Reading.{Reading, yes, no, row, flag_is, objects_are, all_of, any_of, Readings, none, more}
use Rattle.lq_logic_predicates.specs.Sum.{Sum}
use Rattle.lq_logic_predicates.specs.declared.symbol.Symbol.{Symbol}

-- a flag that is given no value is false
abbrev pub given_value : Option Given → Bool
given_value (Some g) = g.value
given_value None = false

-- the point's flags are those that facts give, and its objects are of one class exactly where facts make them one
pub record IsAt (objects : List Sum) (s : PathState) (p : Point) : Type 0 where
  pub flags : (x : Symbol) → p.holds x ≡ given_value (find_given s.flags x)
  pub classes : (i j : ℕ) (a b : Sum) → slice_get objects i ≡ Some a → slice_get objects j ≡ Some b → (p.class_of a ≡ p.class_of b) ↔ AreOne (objects_in s) i j

-- ---- where it isn't known whether a reading is met

-- an operation past 128 bits by which the level of the row is formed
pub record IsRowPast (v : Valuation) (r : Row) : Type 0 where
  pub error : NumberPast
  pub past : IsPast error
  pub step : IsStep v r error.op (value_of error.left) (value_of error.right)

-- so it is of a row in the reading
abbrev mutual
  pub IsPastIn : Valuation → Reading Row → Type 0
  IsPastIn v yes = ⊥
  IsPastIn v no = ⊥
  IsPastIn v (row r) = IsRowPast v r
  IsPastIn v (flag_is x sign) = ⊥
  IsPastIn v (objects_are a b sign) = ⊥
  IsPastIn v (all_of rs) = IsPastInAny v rs
  IsPastIn v (any_of rs) = IsPastInAny v rs

  pub IsPastInAny : Valuation → Readings Row → Type 0
  IsPastInAny v none = ⊥
  IsPastInAny v (more r rs) = IsPastIn v r ⊎ IsPastInAny v rs
