-- Implications all of whose rows are difference rows.
use Rattle.std.specs.Prelude.{Contains}
use Rattle.lq_logic_rows.specs.Difference.{IsDifference}
use Rattle.lq_logic_rows.specs.Row.{Row}
use Rattle.lq_logic_predicates.specs.ClosedImplication.{ClosedImplication, terms_in}
use Rattle.lq_logic_predicates.specs.Comparison.{Comparison, IsRowOf}
use Rattle.lq_logic_predicates.specs.Literals.{implication_literals}
use Rattle.lq_solve_strongest.specs.Selections.Fewer.{AreFewer}

-- the row of each literal is a difference row
abbrev pub AreDifferences : ClosedImplication → Type 0
AreDifferences i = (c : Comparison) (r : Row) → Contains (implication_literals i) c → IsRowOf (terms_in i) c r → IsDifference r.parts

-- with fewer literals and terms they stay so
abbrev pub FewerAreDifferences : Type 0
FewerAreDifferences = (i j : ClosedImplication) → AreFewer i j → AreDifferences j → AreDifferences i
