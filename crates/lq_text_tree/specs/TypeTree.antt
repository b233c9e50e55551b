-- What a written type is, without the memory that holds it. A name is its number.
use Rattle.std.specs.Prelude.{ℕ}
use Rattle.lq_base_names.specs.declared.place.Place.{Place}

mutual
  pub data TypeTree : Type 0 where
    type_tree : Place → TypeForm → TypeTree

  pub data TypeForm : Type 0 where
    variable : ℕ → TypeForm
    -- the arguments, the name behind them, and its place
    apply : TypeTrees → ℕ → Place → TypeForm
    product : TypeTrees → TypeForm
    arrow : TypeTree → TypeTree → TypeForm

  pub data TypeTrees : Type 0 where
    no_type_trees : TypeTrees
    more_type_trees : TypeTree → TypeTrees → TypeTrees
