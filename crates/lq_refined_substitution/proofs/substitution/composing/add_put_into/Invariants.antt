use Rattle.std.proofs.Common.{◌≡◌, ◌++◌, map, take}
use Rattle.lq_refined_substitution.specs.Substitution.Composing.{put_in}
use Rattle.lq_refined_substitution.specs.Substitution.Views.{subst_view, swaps_view}
use Rattle.lq_refined_substitution.proofs.substitution.composing.add_put_into.Given as goal

abbrev pub invariant-loop-swap : goal.invariant-loop-swap
invariant-loop-swap l =
    swaps_view l.made.items ≡ swaps_view l.initial.made.items ++ map (put_in (subst_view l.by)) (swaps_view (take l.swap-index l.swaps))
