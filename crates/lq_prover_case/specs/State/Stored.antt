-- The rows that stand, and what the distances have of them.
use Rattle.std.specs.Prelude.{◌≡◌, ◌≢◌, ℕ, suc, List, [], ◌∷◌, ◌++◌, All, Option, Some, None, length, take, slice_get, if◌then◌else◌, IsNone, MatchBool}
use Rattle.lq_logic_rows.specs.Answers.{Held, Stopped}
use Rattle.lq_logic_rows.specs.Contradiction.{Tagged, tagged, Solves}
use Rattle.lq_logic_rows.specs.Difference.{IsDifference, TermsBelow}
use Rattle.lq_logic_rows.specs.Row.{Row, Valuation, RowHolds}
use Rattle.lq_logic_rows.specs.declared.engine.LinearStop.{LinearStop}
use Rattle.lq_prover_differences.specs.Table as diff
use Rattle.lq_prover_simplex.specs.Table as table
use Rattle.lq_prover_case.specs.declared.state.stored.StoredRow.{StoredRow}

-- the rows with their tags
abbrev pub tagged_rows : List StoredRow → Tagged
tagged_rows [] = []
tagged_rows (s ∷ ss) = (s.tag, s.row) ∷ tagged_rows ss

-- the difference rows among them
abbrev pub differences_in : List StoredRow → Tagged
differences_in [] = []
differences_in (s ∷ ss) = if s.odd then differences_in ss else (s.tag, s.row) ∷ differences_in ss

-- the indexes of the others, where the first row has the index n
abbrev pub odd_from : ℕ → List StoredRow → List ℕ
odd_from n [] = []
odd_from n (s ∷ ss) = if s.odd then n ∷ odd_from (suc n) ss else odd_from (suc n) ss

-- the row at an index holds
abbrev pub HoldsAt : Valuation → List StoredRow → ℕ → Type 0
HoldsAt v rows k = (s : StoredRow) → slice_get rows k ≡ Some s → RowHolds v s.row

abbrev pub AllHoldAt : Valuation → List StoredRow → List ℕ → Type 0
AllHoldAt v rows [] = Unit {0}
AllHoldAt v rows (k ∷ ks) = HoldsAt v rows k × AllHoldAt v rows ks

-- no tag stands twice
abbrev pub AreApart : Tagged → Type 0
AreApart [] = Unit {0}
AreApart (r ∷ rows) = IsNone (tagged rows r.0) × AreApart rows

-- each row is over the terms below n
abbrev pub AllBelow : ℕ → Tagged → Type 0
AllBelow n [] = Unit {0}
AllBelow n (r ∷ rows) = TermsBelow n r.1.parts × AllBelow n rows

-- each row is marked by its kind, and knows how many odd ones are before it, where n are before the first
abbrev pub AreMarked : ℕ → List StoredRow → Type 0
AreMarked n [] = Unit {0}
AreMarked n (s ∷ ss) =
    MatchBool s.odd (IsDifference s.row.parts → ⊥) (IsDifference s.row.parts) × (s.odd_before ≡ n) × AreMarked (if s.odd then suc n else n) ss

-- the rows that stand, with the difference rows in the table of distances
pub record IsKept (stored : List StoredRow) (odd : List ℕ) (distances : diff.Table) : Type 0 where
  pub below : AllBelow distances.terms (tagged_rows stored)
  pub apart : AreApart (tagged_rows stored)
  pub marked : AreMarked 0 stored
  pub places : odd ≡ odd_from 0 stored
  pub standing : diff.table_rows distances ≡ differences_in stored
  pub going : diff.table_last distances ≢ Stopped

-- the first ones of some rows
abbrev pub IsFront : Tagged → Tagged → Type 0
IsFront some all = some ≡ take (length some) all

-- a tableau with the first ones of the rows
pub record IsFilled (terms pivots : ℕ) (rows : Tagged) (tableau : table.Table) : Type 0 where
  pub limits : table.table_limits tableau ≡ terms ∷ pivots ∷ []
  pub front : IsFront (table.table_rows tableau) rows
  pub going : table.table_last tableau ≢ Stopped

abbrev pub MayBeFilled : ℕ → ℕ → Tagged → Option table.Table → Type 0
MayBeFilled terms pivots rows None = Unit {0}
MayBeFilled terms pivots rows (Some tableau) = IsFilled terms pivots rows tableau

-- its values solve the rows
abbrev pub SolvesBy : Tagged → Option table.Table → Type 0
SolvesBy rows None = ⊥
SolvesBy rows (Some tableau) = (table.table_last tableau ≡ Held) × Solves (table.table_point tableau) rows

-- a tableau keeps the first rows
abbrev pub KeepsFirst : ℕ → Option table.Table → Option table.Table → Type 0
KeepsFirst count None None = Unit {0}
KeepsFirst count (Some old) (Some new) =
    (table.table_limits new ≡ table.table_limits old) × (table.table_rows new ≡ take count (table.table_rows old))
    × (table.table_last old ≢ Stopped → table.table_last new ≢ Stopped) × ((ever : List Row) → table.Handed old ever → table.Handed new ever)
KeepsFirst count None (Some new) = ⊥
KeepsFirst count (Some old) None = ⊥

-- ---- rows that were handed

-- the rows are all that a tableau was ever handed, and none where there is no tableau
abbrev pub WasHanded : Option table.Table → List Row → Type 0
WasHanded None ever = ever ≡ []
WasHanded (Some tableau) ever = table.Handed tableau ever

-- what was handed stays, and more was handed: rows of which P holds
pub record HandsMore (P : Row → Type 0) (old new : Option table.Table) : Type 0 where
  pub more : List Row
  pub each : All P more
  pub handed : (ever : List Row) → WasHanded old ever → WasHanded new (ever ++ more)

-- one of the rows that stand
pub record Stands (rows : Tagged) (r : Row) : Type 0 where
  pub at : ℕ
  pub tag : ℕ
  pub is : slice_get rows at ≡ Some (tag, r)

-- A stop of a tableau that was ever handed these rows, and then more. Of each of these, and of each row that stands in it, P holds.
pub record StopsInTableau (terms pivots : ℕ) (ever : List Row) (P : Row → Type 0) (stop : LinearStop) : Type 0 where
  pub more : List Row
  pub each : All P more
  pub standing : Tagged
  pub each_stands : All (λ r. P r.1) standing
  pub stops : table.StopsAt terms pivots standing (ever ++ more) stop
