use Rattle.std.proofs.Common.{◌≡◌, map, take}
use Rattle.lq_refined_substitution.specs.Substitution.Composing.{put_in}
use Rattle.lq_refined_substitution.specs.Substitution.Views.{subst_view, swaps_view}
use Rattle.lq_refined_substitution.proofs.substitution.leaving.leaves_each.Given as goal

abbrev pub invariant-loop-swap : goal.invariant-loop-swap
invariant-loop-swap l =
    map (put_in (subst_view l.by)) (swaps_view (take l.swap-index l.swaps)) ≡ swaps_view (take l.swap-index l.swaps)
