use Rattle.std.proofs.Common.{◌≡◌, ◌++◌, drop}
use Rattle.lq_refined_types.specs.Parts.Substitution.{Subst}
use Rattle.lq_refined_substitution.specs.Substitution.Restricting.{rest_kept}
use Rattle.lq_refined_substitution.specs.Substitution.Views.{scopes_view, swaps_view}
use Rattle.lq_refined_substitution.proofs.substitution.restricting.counted_swaps.Given as goal

abbrev pub invariant-loop-swap : goal.invariant-loop-swap
invariant-loop-swap l =
    (σ : Subst) → rest_kept (scopes_view l.scopes l.unknown) l.initial.done (swaps_view l.swaps ++ σ)
    ≡ swaps_view l.made.items ++ rest_kept (scopes_view l.scopes l.unknown) l.done (swaps_view (drop l.swap-index l.swaps) ++ σ)
