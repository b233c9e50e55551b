use Rattle.std.proofs.Common.{◌≡◌, ◌++◌, map, drop}
use Rattle.lq_refined_substitution.specs.Substitution.Composing.{put_in}
use Rattle.lq_refined_substitution.specs.Substitution.Views.{runs_view, subst_view}
use Rattle.lq_refined_substitution.proofs.substitution.composing.put_into_rows.Given as goal

abbrev pub invariant-loop-run : goal.invariant-loop-run
invariant-loop-run l =
    runs_view l.made.items ++ map (put_in (subst_view l.by)) (runs_view (drop l.run-index l.runs)) ≡ map (put_in (subst_view l.by)) (runs_view l.runs)
