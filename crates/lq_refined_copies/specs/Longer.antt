-- Lists that begin with another list.
use Rattle.std.specs.Prelude.{◌≡◌, List, ◌++◌}

pub record Longer {X : Type 0} (old new : List X) : Type 0 where
  pub added : List X
  pub is : new ≡ old ++ added
