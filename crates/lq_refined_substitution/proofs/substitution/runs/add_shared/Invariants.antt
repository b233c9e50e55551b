use Rattle.std.proofs.Common.{◌≡◌, ◌++◌, drop}
use Rattle.lq_refined_substitution.specs.Substitution.Views.{run_list}
use Rattle.lq_refined_substitution.proofs.substitution.runs.add_shared.Given as goal

abbrev pub invariant-loop-run : goal.invariant-loop-run
invariant-loop-run l = run_list l.made.items ++ run_list (drop l.run-index l.runs) ≡ run_list l.initial.made.items ++ run_list l.runs
