-- What the rows of a path are seen as, and what always holds of them.
use Rattle.std.specs.Prelude.{◌≡◌, ℕ, pos, Bool, true, false, List, [], ◌∷◌, Option, Some, None, ◌⊎◌}
use Rattle.lq_base_numbers.specs.Rationals.Rational.{whole}
use Rattle.lq_logic_rows.specs.Answers.{Held}
use Rattle.lq_logic_rows.specs.Contradiction.{Tagged, Solves}
use Rattle.lq_logic_rows.specs.Difference.{IsDifference}
use Rattle.lq_logic_rows.specs.Near.{IsNear}
use Rattle.lq_logic_rows.specs.Row.{Row, Valuation}
use Rattle.lq_logic_rows.specs.declared.engine.LinearStop.{LinearStop}
use Rattle.lq_prover_differences.specs.Stops.{StopsBy}
use Rattle.lq_prover_differences.specs.Table as diff
use Rattle.lq_prover_simplex.specs.Table as table
use Rattle.lq_prover_simplex.specs.Working.{IsPlaced}
use Rattle.lq_prover_case.specs.State.Stored.{IsKept, MayBeFilled, SolvesBy, StopsInTableau, tagged_rows}
use Rattle.lq_prover_case.specs.declared.state.rows.Found.{Found}
use Rattle.lq_prover_case.specs.declared.state.rows.Found.TheVariants.{Nothing, ByDistances, ByTableau}
use Rattle.lq_prover_case.specs.declared.state.stored.StoredRow.{StoredRow}

-- the rows that stand, which engine has values that solve them, the engines, and the limit on pivots
pub record RowState : Type 0 where
  pub rows : Tagged
  pub found : Found
  pub distances : diff.Table
  pub tableau : Option table.Table
  pub pivots : ℕ

-- the rows are over the terms below this number
abbrev pub terms_of : RowState → ℕ
terms_of s = s.distances.terms

abbrev pub is_found : Found → Bool
is_found Nothing = false
is_found ByDistances = true
is_found ByTableau = true

-- values are known that solve the rows
abbrev pub is_solved : RowState → Bool
is_solved s = is_found s.found

-- the values of the tableau, and 0 where there is none
abbrev pub tableau_point : Option table.Table → Valuation
tableau_point None = λ term. whole (pos 0)
tableau_point (Some t) = table.table_point t

abbrev pub point_by : Found → diff.Table → Option table.Table → Valuation
point_by Nothing d t = λ term. whole (pos 0)
point_by ByDistances d t = diff.table_point d
point_by ByTableau d t = tableau_point t

-- these values
abbrev pub row_point : RowState → Valuation
row_point s = point_by s.found s.distances s.tableau

-- each row is a difference row
abbrev pub AreDifferences : Tagged → Type 0
AreDifferences [] = Unit {0}
AreDifferences (r ∷ rows) = IsDifference r.1.parts × AreDifferences rows

-- the values solve the rows, and are those of the tableau only where a row is no difference row
abbrev pub IsFoundBy : Found → Tagged → diff.Table → Option table.Table → Type 0
IsFoundBy Nothing rows d t = Unit {0}
IsFoundBy ByDistances rows d t = (diff.table_last d ≡ Held) × Solves (diff.table_point d) rows
IsFoundBy ByTableau rows d t = SolvesBy rows t × (AreDifferences rows → ⊥)

pub record IsRowState (stored : List StoredRow) (odd : List ℕ) (d : diff.Table) (t : Option table.Table) (found : Found) (pivots : ℕ) : Type 0 where
  pub kept : IsKept stored odd d
  pub filled : MayBeFilled d.terms pivots (tagged_rows stored) t
  pub found_by : IsFoundBy found (tagged_rows stored) d t

-- A stop of the table of distances, by the sizes of the constants; or, where a row is no difference row, one of the tableau that was ever
-- handed some rows, and then more of which P holds.
pub record MayStop (terms pivots : ℕ) (ever : List Row) (P : Row → Type 0) (rows : Tagged) (stop : LinearStop) : Type 0 where
  pub differences : AreDifferences rows → StopsBy (diff.constants rows) stop
  pub any : StopsBy (diff.constants rows) stop ⊎ StopsInTableau terms pivots ever P stop

-- Where the values that solve the rows come from: from a configuration of a tableau that was ever handed some rows, or they are whole
-- numbers, none of them and no difference of two larger in size than the sizes of the constants sum to.
pub data AreValuesBy (terms : ℕ) (ever : List Row) (rows : Tagged) (v : Valuation) : Type 0 where
  placed : IsPlaced terms ever v → AreValuesBy terms ever rows v
  near : IsNear (diff.constants rows) terms v → AreValuesBy terms ever rows v
