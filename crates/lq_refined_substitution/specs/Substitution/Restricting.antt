-- What is kept of replacements as they are gone through.
use Rattle.std.specs.Prelude.{ℕ, List, reverse, take}
use Rattle.lq_refined_types.specs.Parts.Substitution as swaps
use Rattle.lq_refined_types.specs.Parts.Substitution.{kept}
use Rattle.lq_logic_predicates.specs.declared.symbol.Symbol.{Symbol}
use Rattle.lq_refined_substitution.specs.Substitution.Runs.{swaps_view}
use Rattle.lq_refined_substitution.specs.declared.substitution.restricting.Done.{Done}
use Rattle.lq_refined_substitution.specs.declared.substitution.restricting.Picked.{Picked}
use Rattle.lq_refined_substitution.specs.declared.substitution.restricting.Picked.TheVariants.{Whole, Copies}
use Rattle.lq_refined_substitution.specs.declared.substitution.seen.Seen.{Seen}
use Rattle.lq_refined_substitution.specs.declared.substitution.swaps.Swap.{Swap}

-- the symbols, the last one first
abbrev pub seen_before : Seen → List Symbol
seen_before s = reverse s.items.items

-- of replacements that are still to come, what counts behind these
abbrev pub rest_kept : List Symbol → Done → swaps.Subst → swaps.Subst
rest_kept scope d σ = kept scope (seen_before d.terms) (seen_before d.flags) σ

-- what is kept of so many of the first replacements
abbrev pub picked_view : Picked → List Swap → ℕ → swaps.Subst
picked_view Whole ss n = swaps_view (take n ss)
picked_view (Copies made) ss n = swaps_view made.items
