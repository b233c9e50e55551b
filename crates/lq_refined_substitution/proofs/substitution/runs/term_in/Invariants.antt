use Rattle.std.proofs.Common.{◌≡◌, ◌++◌, drop}
use Rattle.lq_refined_types.specs.Parts.Substitution.{Subst, sum_at}
use Rattle.lq_refined_substitution.specs.Substitution.Views.{runs_view}
use Rattle.lq_refined_substitution.proofs.substitution.runs.term_in.Given as goal

abbrev pub invariant-loop-run : goal.invariant-loop-run
invariant-loop-run l =
    (θ : Subst) → sum_at (runs_view l.runs ++ θ) l.symbol ≡ sum_at (runs_view (drop l.run-index l.runs) ++ θ) l.symbol
