use Rattle.std.proofs.Common.{◌≡◌, ◌++◌, drop}
use Rattle.lq_refined_types.specs.Parts.Substitution.{Subst, flag_at}
use Rattle.lq_refined_substitution.specs.Substitution.Views.{runs_view}
use Rattle.lq_refined_substitution.proofs.substitution.runs.pred_in.Given as goal

abbrev pub invariant-loop-run : goal.invariant-loop-run
invariant-loop-run l =
    (θ : Subst) → flag_at (runs_view l.runs ++ θ) l.symbol ≡ flag_at (runs_view (drop l.run-index l.runs) ++ θ) l.symbol
