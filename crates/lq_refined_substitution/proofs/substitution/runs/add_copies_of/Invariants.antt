use Rattle.std.proofs.Common.{◌≡◌, ◌++◌, drop}
use Rattle.lq_refined_substitution.specs.Substitution.Views.{runs_view, swaps_view}
use Rattle.lq_refined_substitution.proofs.substitution.runs.add_copies_of.Given as goal

abbrev pub invariant-loop-run : goal.invariant-loop-run
invariant-loop-run l = swaps_view l.made.items ++ runs_view (drop l.run-index l.runs) ≡ swaps_view l.initial.made.items ++ runs_view l.runs
