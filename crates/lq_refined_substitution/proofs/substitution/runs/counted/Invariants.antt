use Rattle.std.proofs.Common.{◌≡◌, ◌+◌, drop, length}
use Rattle.lq_refined_substitution.specs.Substitution.Views.{run_list}
use Rattle.lq_refined_substitution.proofs.substitution.runs.counted.Given as goal

abbrev pub invariant-loop-run : goal.invariant-loop-run
invariant-loop-run l = l.count + length (run_list (drop l.run-index l.runs)) ≡ l.more + length (run_list l.runs)
