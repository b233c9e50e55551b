use Rattle.std.proofs.Common.{◌≡◌, ◌++◌, take}
use Rattle.lq_refined_substitution.specs.Substitution.Views.{swaps_view}
use Rattle.lq_refined_substitution.proofs.substitution.runs.add_copies.Given as goal

abbrev pub invariant-loop-swap : goal.invariant-loop-swap
invariant-loop-swap l = swaps_view l.made.items ≡ swaps_view l.initial.made.items ++ swaps_view (take l.swap-index l.swaps)
