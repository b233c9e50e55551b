-- The state of a path whose facts are as before.
use Rattle.std.specs.Prelude.{◌≡◌, ℕ}
use Rattle.lq_prover_case.specs.State.PathState.{KeepsHanded, PathState, facts_in}
use Rattle.lq_prover_search.specs.Path.SearchPath.{SameLimits}
use Rattle.lq_logic_predicates.specs.Sum.{Sum}

-- facts, limits and what the tableau was handed are as before
pub record IsUnmoved (old new : PathState) : Type 0 where
  pub facts : (name : ℕ → Sum) → facts_in name new ≡ facts_in name old
  pub limits : SameLimits new old
  pub handed : KeepsHanded old new
