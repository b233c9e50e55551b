-- Parts behind which others are put one by one.
use Rattle.std.specs.Prelude.{◌≡◌, ℕ, ◌++◌, take}
use Rattle.lq_refined_types.specs.Parts.Part.{Parts}

-- the new parts are the old ones, and behind them the first ones of others, so many
pub record HasFirst (old new others : Parts) : Type 0 where
  pub count : ℕ
  pub is : new ≡ old ++ take count others
