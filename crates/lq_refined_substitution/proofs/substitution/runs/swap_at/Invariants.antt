use Rattle.std.proofs.Common.{◌≡◌, ◌++◌, List, drop, slice_get}
use Rattle.lq_refined_substitution.specs.Substitution.Views.{run_list}
use Rattle.lq_refined_substitution.specs.declared.substitution.swaps.Swap.{Swap}
use Rattle.lq_refined_substitution.proofs.substitution.runs.swap_at.Given as goal

abbrev pub invariant-loop-run : goal.invariant-loop-run
invariant-loop-run l =
    (more : List Swap) → slice_get (run_list l.runs ++ more) l.at ≡ slice_get (run_list (drop l.run-index l.runs) ++ more) l.left
