use Rattle.std.proofs.Common.{◌≡◌, ◌++◌, drop}
use Rattle.lq_refined_types.specs.Parts.Substitution.{Subst, flag_at}
use Rattle.lq_refined_substitution.specs.Substitution.Views.{swaps_view}
use Rattle.lq_refined_substitution.proofs.substitution.runs.pred_among.Given as goal

abbrev pub invariant-loop-swap : goal.invariant-loop-swap
invariant-loop-swap l =
    (θ : Subst) → flag_at (swaps_view l.swaps ++ θ) l.symbol ≡ flag_at (swaps_view (drop l.swap-index l.swaps) ++ θ) l.symbol
