-- What begins to wait.
use Rattle.std.specs.Prelude.{◌≡◌, ◌<◌, ◌≤◌, ℕ, List, Option, Some, All, slice_get}
use Rattle.std.specs.List.Sorted.{IsStrictlySortedBy}
use Rattle.std.specs.Ordering.{nat_cmp}
use Rattle.lq_solve_fixpoint.specs.Weakening.Among.{IsAmong}

-- the implication of the number is a flow
pub record IsFlowAt (goals : List (Option ℕ)) (at : ℕ) : Type 0 where
  pub goal : ℕ
  pub here : slice_get goals at ≡ Some (Some goal)

-- what waited waits, and each flow of which P holds waits too; what waits are flows, in order
pub record Wakes (goals : List (Option ℕ)) (P : ℕ → Type 0) (before after : List ℕ) : Type 0 where
  pub kept : (k : ℕ) → IsAmong before k → IsAmong after k
  pub woken : (k : ℕ) → P k → IsFlowAt goals k → IsAmong after k
  pub flows : All (IsFlowAt goals) before → All (IsFlowAt goals) after
  pub sorted : IsStrictlySortedBy nat_cmp before → IsStrictlySortedBy nat_cmp after

abbrev pub IsIn : ℕ → ℕ → ℕ → Type 0
IsIn start end k = (start ≤ k) × (k < end)
