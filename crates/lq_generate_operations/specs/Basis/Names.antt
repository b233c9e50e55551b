-- What names have which types.
use Rattle.std.specs.Prelude.{◌≡◌, ℕ, List, [], ◌++◌}
use Rattle.lq_generate_operations.specs.declared.basis.names.Names.{Names}
use Rattle.lq_generate_operations.specs.Basis.Undoing.{bound_on}

-- the names with the numbers of their types, the last one first
abbrev pub bound : Names → List (ℕ × ℕ)
bound names = bound_on [] names.bindings.items

-- the names are the old ones, and possibly more were bound behind them
pub record IsLonger (old new : Names) : Type 0 where
  pub added : List (ℕ × ℕ)
  pub is : bound new ≡ added ++ bound old
