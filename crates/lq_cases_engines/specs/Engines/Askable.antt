-- Rows of conditions that can be gathered.
use Rattle.std.specs.Prelude.{◌≡◌, ℕ, ◌<◌, List, All, Some, slice_get}
use Rattle.lq_logic_predicates.specs.Comparison.{CanGather}
use Rattle.lq_logic_predicates.specs.Literals.{equal_row, below_row, pair_rows}
use Rattle.lq_logic_predicates.specs.Sum.{Sum}

-- the rows that two arguments are equal, and that one is below the other
pub record SidesFit (a b : Sum) : Type 0 where
  pub equal : CanGather (equal_row a b)
  pub below : CanGather (below_row a b)
  pub above : CanGather (below_row b a)

-- the rows of the n-th term with each of the first k
abbrev pub EarlierFit : List Sum → ℕ → ℕ → Type 0
EarlierFit terms n k = (i : ℕ) (s t : Sum) → i < k → slice_get terms i ≡ Some s → slice_get terms n ≡ Some t → All CanGather (pair_rows s t)
