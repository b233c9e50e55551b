-- Some of the rows of a list, and what is done at a configuration of these alone.
use Rattle.std.specs.Prelude.{◌≡◌, ℕ, ◌^◌, ◌<◌, ◌≤◌, List, Contains, length}
use Rattle.lq_base_numbers.specs.Rationals.Rational.{ℚ}
use Rattle.lq_base_numbers.specs.Fractions.Past.{IsPast}
use Rattle.lq_base_numbers.specs.Fractions.Value.{value_of}
use Rattle.lq_base_numbers.specs.declared.fractions.past.NumOp.{NumOp}
use Rattle.lq_base_numbers.specs.declared.fractions.past.NumberPast.{NumberPast}
use Rattle.lq_logic_rows.specs.Difference.{TermsBelow}
use Rattle.lq_logic_rows.specs.Row.{Row, Valuation}
use Rattle.lq_logic_rows.specs.Steps.{IsStep}
use Rattle.lq_prover_pivots.specs.Pivots.Rows.{Variables}
use Rattle.lq_prover_pivots.specs.Pivots.Variables.{AreVariables}
use Rattle.lq_prover_pivots.specs.Pivots.Configurations.{Configuration, IsConfiguration}
use Rattle.lq_prover_pivots.specs.Work.Sizes.{largest_constant, sum_of_constants, AreSmall}
use Rattle.lq_prover_pivots.specs.Work.Work.{IsLevel, IsReading, IsWholeLevel, IsWork}

-- each row is one of the list
abbrev pub AreAmong : List Row → List Row → Type 0
AreAmong all part = (row : Row) → Contains part row → Contains all row

-- rows of the list, with their own variables, over as many terms
pub record IsPart (all : List Row) (vs : Variables) (part : List Row) (us : Variables) : Type 0 where
  pub among : AreAmong all part
  pub variables : AreVariables part us
  pub terms : us.terms ≡ vs.terms

-- what is done at a configuration of the part: the work of a tableau there, any row of the list at its values, and any at whole values
pub data IsWorkOn (all : List Row) (vs : Variables) (part : List Row) (us : Variables) (c : Configuration) (op : NumOp) (x y : ℚ) : Type 0 where
  work : IsWork us part c op x y → IsWorkOn all vs part us c op x y
  level : IsLevel all c op x y → IsWorkOn all vs part us c op x y
  whole_level : IsWholeLevel vs all op x y → IsWorkOn all vs part us c op x y

-- where the sizes of a list are small, so are those of a part
abbrev pub PartsAreSmall : Type 0
PartsAreSmall = (all : List Row) (vs : Variables) (part : List Row) (us : Variables) → AreSmall all vs → IsPart all vs part us → AreSmall part us

-- and nothing that is done at a configuration of the part is past 128 bits
abbrev pub WorkOnPartsFits : Type 0
WorkOnPartsFits =
    (all : List Row) (vs : Variables) (part : List Row) (us : Variables) (c : Configuration) (e : NumberPast) → AreSmall all vs → IsPart all vs part us
    → IsConfiguration us part c → IsWorkOn all vs part us c e.op (value_of e.left) (value_of e.right) → ¬ IsPast e

-- a row is evaluated by the same operations at values that are the same at the terms, whatever the values past these
abbrev pub LevelsAgree : Type 0
LevelsAgree =
    (terms : ℕ) (v w : Valuation) (row : Row) (op : NumOp) (x y : ℚ) → TermsBelow terms row.parts → ((t : ℕ) → t < terms → v t ≡ w t)
    → IsStep v row op x y → IsStep w row op x y

-- nor is what is done to read a row, which needs no configuration
abbrev pub ReadingsFit : Type 0
ReadingsFit =
    (vs : Variables) (rows : List Row) (e : NumberPast) → AreSmall rows vs → IsReading rows e.op (value_of e.left) (value_of e.right) → ¬ IsPast e

-- a row at whole values needs no configuration
abbrev pub WholeLevelsFit : Type 0
WholeLevelsFit =
    (vs : Variables) (rows : List Row) (e : NumberPast) → AreSmall rows vs → IsWholeLevel vs rows e.op (value_of e.left) (value_of e.right) → ¬ IsPast e

-- the largest constant is at most 2^40, so those of fewer than 2^63 of the rows, each as often as it comes, sum to less than 2^103
pub record HasSmallSums (all : List Row) : Type 0 where
  pub largest : largest_constant all ≤ 2 ^ 40
  pub sum : (some : List Row) → AreAmong all some → length some < 2 ^ 63 → sum_of_constants some < 2 ^ 103

abbrev pub SmallSumsAreSmall : Type 0
SmallSumsAreSmall = (all : List Row) (vs : Variables) → AreSmall all vs → HasSmallSums all
