-- Lists of hypotheses to which more are added.
use Rattle.std.specs.Prelude.{◌≡◌, List, ◌++◌}
use Rattle.lq_refined_types.specs.Parts.Part.{Parts}

-- the new environments are the old ones with possibly more of them behind
pub record HasMore (old new : List Parts) : Type 0 where
  pub added : List Parts
  pub is : new ≡ old ++ added
