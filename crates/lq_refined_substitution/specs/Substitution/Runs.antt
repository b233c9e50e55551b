-- Rows of replacements that several lists share.
use Rattle.std.specs.Prelude.{List, [], ◌∷◌, ◌++◌, map}
use Rattle.lq_refined_types.specs.Parts.Substitution as swaps
use Rattle.lq_logic_predicates.specs.PredView.{formula_of}
use Rattle.lq_refined_types.specs.Parts.Substitution.{of_sum, of_formula, swap}
use Rattle.lq_logic_predicates.specs.TermView.{sum_of}
use Rattle.lq_refined_substitution.specs.declared.substitution.atoms.Atom.{Atom}
use Rattle.lq_refined_substitution.specs.declared.substitution.atoms.Atom.TheVariants as of
use Rattle.lq_refined_substitution.specs.declared.substitution.swaps.Swap.{Swap}
use Rattle.lq_refined_substitution.specs.declared.substitution.runs.Run.{Run}

abbrev pub atom_view : Atom → swaps.Atom
atom_view (of.Term t) = of_sum (sum_of t)
atom_view (of.Pred p) = of_formula (formula_of p)

abbrev pub swap_view : Swap → swaps.Swap
swap_view s = swap s.symbol (atom_view s.atom)

abbrev pub run_swaps : Run → List Swap
run_swaps r = r.swaps.value.items

-- the replacements of rows one behind the other
abbrev pub run_list : List Run → List Swap
run_list [] = []
run_list (r ∷ rs) = run_swaps r ++ run_list rs

abbrev pub swaps_view : List Swap → swaps.Subst
swaps_view ss = map swap_view ss

abbrev pub runs_view : List Run → swaps.Subst
runs_view rs = swaps_view (run_list rs)
