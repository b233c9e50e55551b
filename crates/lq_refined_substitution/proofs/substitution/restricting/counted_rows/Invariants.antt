use Rattle.std.proofs.Common.{◌≡◌, ◌++◌, drop}
use Rattle.lq_refined_types.specs.Parts.Substitution.{Subst}
use Rattle.lq_refined_substitution.specs.Substitution.Restricting.{rest_kept}
use Rattle.lq_refined_substitution.specs.Substitution.Views.{runs_view, scopes_view}
use Rattle.lq_refined_substitution.proofs.substitution.restricting.counted_rows.Given as goal

abbrev pub invariant-loop-run : goal.invariant-loop-run
invariant-loop-run l =
    (σ : Subst) → rest_kept (scopes_view l.scopes l.unknown) l.initial.done (runs_view l.runs ++ σ)
    ≡ runs_view l.made.items ++ rest_kept (scopes_view l.scopes l.unknown) l.done (runs_view (drop l.run-index l.runs) ++ σ)
