use Rattle.std.proofs.Common.{◌≡◌, ◌++◌, drop}
use Rattle.lq_refined_types.specs.Parts.Substitution.{Subst}
use Rattle.lq_refined_substitution.specs.Substitution.Restricting.{picked_view, rest_kept}
use Rattle.lq_refined_substitution.specs.Substitution.Views.{scopes_view, swaps_view}
use Rattle.lq_refined_substitution.proofs.substitution.restricting.add_counted.Given as goal

abbrev pub invariant-loop-at : goal.invariant-loop-at
invariant-loop-at l =
    (σ : Subst) → rest_kept (scopes_view l.scopes l.unknown) l.initial.done (swaps_view l.swaps ++ σ)
    ≡ picked_view l.picked l.swaps l.at ++ rest_kept (scopes_view l.scopes l.unknown) l.done (swaps_view (drop l.at l.swaps) ++ σ)
