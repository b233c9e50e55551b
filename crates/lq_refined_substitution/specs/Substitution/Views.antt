-- What replacements, parts and scopes of the code stand for.
use Rattle.std.specs.Prelude.{ℕ, Bool, List, ◌∷◌, map}
use Rattle.lq_refined_types.specs.Parts.Part as parts
use Rattle.lq_refined_types.specs.Parts.Part.{known, unknown}
use Rattle.lq_refined_types.specs.Parts.Substitution as swaps
use Rattle.lq_logic_predicates.specs.PredView.{formula_of}
use Rattle.lq_logic_predicates.specs.declared.symbol.Symbol.{Symbol}
use Rattle.lq_logic_predicates.specs.declared.symbol.Symbol.TheVariants.{Value}
pub use Rattle.lq_refined_substitution.specs.Substitution.Runs.{atom_view, swap_view, run_swaps, run_list, runs_view, swaps_view}
use Rattle.lq_refined_substitution.specs.Substitution.Listed.{listed_items}
pub use Rattle.lq_refined_substitution.specs.Substitution.Placed.{inner_view}
use Rattle.lq_refined_substitution.specs.Substitution.Placed.{patterns_of, place_list, places_of}
use Rattle.lq_refined_substitution.specs.Substitution.Scopes.{list_at}
use Rattle.lq_refined_substitution.specs.Substitution.Tables.{table_lists}
use Rattle.lq_refined_substitution.specs.declared.substitution.parts.Part.{Part}
use Rattle.lq_refined_substitution.specs.declared.substitution.parts.Part.TheVariants as part
use Rattle.lq_refined_substitution.specs.declared.substitution.parts.Parts.{Parts}
use Rattle.lq_refined_substitution.specs.declared.substitution.scopes.Scopes.{Scopes}
use Rattle.lq_refined_substitution.specs.declared.substitution.swaps.Swap.{Swap}
use Rattle.lq_refined_substitution.specs.declared.substitution.substs.Subst.{Subst}

-- ---- replacements

abbrev pub swap_items : Subst → List Swap
swap_items by = listed_items by.list

abbrev pub subst_view : Subst → swaps.Subst
subst_view by = swaps_view (swap_items by)

-- ---- scopes

-- the symbols of each scope, by its number
abbrev pub scope_lists : Scopes → List (List Symbol)
scope_lists all = table_lists all.table

abbrev pub scope_at : Scopes → ℕ → List Symbol
scope_at all i = list_at (scope_lists all) i

-- the symbols of each unknown's scope, by its number
abbrev pub unknown_lists : Scopes → List (List Symbol)
unknown_lists all = map (place_list (scope_lists all)) (places_of all.places)

-- of each pattern, for each of its unknowns whether its scope stands behind the one at which the pattern is used, and its symbols
abbrev pub pattern_lists : Scopes → List (List (Bool × List Symbol))
pattern_lists all = map (map (inner_view (scope_lists all))) (patterns_of all.places)

-- of which symbols the instances of an unknown may speak
abbrev pub scopes_view : Scopes → parts.Scopes
scopes_view all u = Value ∷ list_at (unknown_lists all) u

-- ---- parts

abbrev pub part_view : Part → parts.Part
part_view (part.Known p) = known (formula_of p)
part_view (part.Unknown u by) = unknown u (subst_view by)

abbrev pub part_items : Parts → List Part
part_items ps = ps.items.items

abbrev pub parts_view : Parts → parts.Parts
parts_view ps = map part_view (part_items ps)
