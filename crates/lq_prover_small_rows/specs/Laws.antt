-- What holds of rows of small sizes, and of rows of comparisons.
use Rattle.std.specs.Prelude.{◌≡◌, ℕ, ◌*◌, ◌^◌, ◌<◌, ◌≤◌, true, List, Contains, length}
use Rattle.lq_prover_proof_tree.specs.Trees.Path.{Fact}
use Rattle.lq_prover_proof_tree.specs.Trees.Proves.{AreRowsOf, rows_among}
use Rattle.lq_prover_differences.specs.Table.{constants}
use Rattle.lq_logic_rows.specs.Difference.{TermsBelow}
use Rattle.lq_logic_rows.specs.Near.{IsNear}
use Rattle.lq_logic_rows.specs.Row.{Row, Valuation}
use Rattle.lq_logic_rows.specs.Steps.{IsStep}
use Rattle.lq_logic_rows.specs.declared.limits.TheConstants.{SUM_LIMIT}
use Rattle.lq_prover_proof_tree.specs.Literals.Gathered.{sizes}
use Rattle.lq_base_numbers.specs.Fractions.Past.{IsPast}
use Rattle.lq_base_numbers.specs.Fractions.Value.{value_of}
use Rattle.lq_base_numbers.specs.declared.fractions.past.NumberPast.{NumberPast}
use Rattle.lq_prover_pivots.specs.Pivots.Rows.{Variables}
use Rattle.lq_logic_predicates.specs.Comparison.{Comparison, IsRowOf}
use Rattle.lq_logic_predicates.specs.Sum.{Sum}
use Rattle.lq_logic_predicates.specs.Table.{all_differ}
use Rattle.lq_prover_simplex.specs.Table.{untagged}
use Rattle.lq_prover_simplex.specs.Working.{IsPlaced, IsWorkOver}
use Rattle.lq_prover_pivots.specs.Work.Part.{AreAmong}
use Rattle.lq_prover_pivots.specs.Work.Sizes.{AreSmall, largest_constant, sum_of_constants}

-- rows of small sizes, over so many terms
pub record IsSmallList (all : List Row) (vs : Variables) (terms : ℕ) : Type 0 where
  pub over : vs.terms ≡ terms
  pub small : AreSmall all vs

-- the work of a tableau that was ever handed some of the rows isn't past 128 bits
abbrev pub WorkOverFits : Type 0
WorkOverFits =
    (all : List Row) (vs : Variables) (terms : ℕ) (ever : List Row) (e : NumberPast) → IsSmallList all vs terms → AreAmong all ever
    → IsWorkOver terms ever e.op (value_of e.left) (value_of e.right) → ¬ IsPast e

-- nor is any of the rows at the values of a configuration of some of them
abbrev pub PlacedLevelsFit : Type 0
PlacedLevelsFit =
    (all : List Row) (vs : Variables) (terms : ℕ) (ever : List Row) (v : Valuation) (row : Row) (e : NumberPast) → IsSmallList all vs terms
    → AreAmong all ever → Contains all row → TermsBelow terms row.parts → IsPlaced terms ever v
    → IsStep v row e.op (value_of e.left) (value_of e.right) → ¬ IsPast e

-- nor at whole numbers that are no larger than all constants sum to, and than fewer than 2^63 of the largest constant
abbrev pub NearLevelsFit : Type 0
NearLevelsFit =
    (all : List Row) (vs : Variables) (terms most count : ℕ) (v : Valuation) (row : Row) (e : NumberPast) → IsSmallList all vs terms
    → Contains all row → most ≤ sum_of_constants all → most ≤ count * largest_constant all → count < 2 ^ 63 → IsNear most terms v
    → IsStep v row e.op (value_of e.left) (value_of e.right) → ¬ IsPast e

-- what the constants of facts sum to whose rows are some of the rows; of fewer than 2^64 facts it is below the limit of sums
pub record HasSmallSum (all : List Row) (facts : List Fact) : Type 0 where
  pub sum : constants (rows_among facts) ≤ length facts * largest_constant all
  pub small : length facts < 2 ^ 64 → constants (rows_among facts) < SUM_LIMIT

abbrev pub SumsAreSmall : Type 0
SumsAreSmall = (all : List Row) (vs : Variables) (facts : List Fact) → AreSmall all vs → AreAmong all (untagged (rows_among facts)) → HasSmallSum all facts

-- a comparison has one row, so a list of rows of comparisons has each row of one of these
abbrev pub RowsAreThere : Type 0
RowsAreThere =
    (terms : List Sum) (cs : List Comparison) (rs : List Row) (c : Comparison) (r : Row) → all_differ terms ≡ true → AreRowsOf terms cs rs
    → Contains cs c → IsRowOf terms c r → Contains rs r

abbrev pub SizesAreConstants : Type 0
SizesAreConstants = (terms : List Sum) (cs : List Comparison) (rs : List Row) → AreRowsOf terms cs rs → sizes cs ≡ sum_of_constants rs
