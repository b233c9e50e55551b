-- Tables whose rows stand under the tags from 0 on.
use Rattle.std.specs.Prelude.{◌≡◌, ◌≢◌, ℕ, suc, [], ◌∷◌}
use Rattle.lq_logic_rows.specs.Row.{Row}
use Rattle.lq_logic_rows.specs.Answers.{Stopped}
use Rattle.lq_logic_rows.specs.Contradiction.{Tagged}
use Rattle.lq_logic_rows.specs.Difference.{IsDifference, TermsBelow}
use Rattle.lq_prover_differences.specs.Table.{Table, table_rows, table_last, table_limits}

abbrev pub AreNumbered : ℕ → Tagged → Type 0
AreNumbered n [] = Unit {0}
AreNumbered n (r ∷ rows) = (r.0 ≡ n) × AreNumbered (suc n) rows

-- an engine of these limits that hasn't stopped
pub record IsKept (t : Table) : Type 0 where
  pub numbered : AreNumbered 0 (table_rows t)
  pub limits : table_limits t ≡ 6 ∷ 40 ∷ []
  pub going : table_last t ≢ Stopped

pub record IsTaken (row : Row) : Type 0 where
  pub difference : IsDifference row.parts
  pub below : TermsBelow 6 row.parts
