-- The scopes of a table.
use Rattle.std.specs.Prelude.{ℕ, List, [], ◌∷◌}
use Rattle.lq_logic_predicates.specs.declared.symbol.Symbol.{Symbol}
use Rattle.lq_refined_substitution.specs.Substitution.Scopes.{grown, list_at}
use Rattle.lq_refined_substitution.specs.declared.substitution.tables.Table.{Table}

-- the symbols of each scope, by its number
abbrev pub table_lists : Table → List (List Symbol)
table_lists table = grown ([] ∷ []) table.entries.items

abbrev pub table_at : Table → ℕ → List Symbol
table_at table i = list_at (table_lists table) i
