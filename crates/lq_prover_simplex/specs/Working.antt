-- The work of a tableau, for the rows that it was ever handed, and the configuration that its values are those of.
use Rattle.std.specs.Prelude.{◌≡◌, ℕ, List}
use Rattle.lq_base_numbers.specs.Rationals.Rational.{ℚ}
use Rattle.lq_base_numbers.specs.declared.fractions.past.NumOp.{NumOp}
use Rattle.lq_logic_rows.specs.Row.{Row, Valuation}
use Rattle.lq_prover_pivots.specs.Pivots.Configurations.{Configuration, IsConfiguration}
use Rattle.lq_prover_pivots.specs.Pivots.Rows.{Variables}
use Rattle.lq_prover_pivots.specs.Pivots.Variables.{AreVariables}
use Rattle.lq_prover_pivots.specs.Work.Work.{IsReading, IsWork}

-- what is done to read one of the rows, or at a configuration of their variables over so many terms
pub data IsWorkOver (terms : ℕ) (ever : List Row) (op : NumOp) (x y : ℚ) : Type 0 where
  reading : IsReading ever op x y → IsWorkOver terms ever op x y
  at : (vs : Variables) (c : Configuration) → vs.terms ≡ terms → AreVariables ever vs → IsConfiguration vs ever c → IsWork vs ever c op x y
      → IsWorkOver terms ever op x y

-- the values are those of a configuration of the rows, over so many terms
pub record IsPlaced (terms : ℕ) (ever : List Row) (v : Valuation) : Type 0 where
  pub variables : Variables
  pub over : variables.terms ≡ terms
  pub listed : AreVariables ever variables
  pub configuration : Configuration
  pub is : IsConfiguration variables ever configuration
  pub values : (t : ℕ) → configuration.value t ≡ v t
