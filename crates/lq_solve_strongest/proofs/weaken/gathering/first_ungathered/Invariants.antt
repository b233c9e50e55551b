-- Each implication so far can be gathered.
use Rattle.lq_solve_fixpoint.specs.Questions.Assigned.{constraints_of, instances_in}
use Rattle.lq_solve_strongest.proofs.WeakenLemmas.Stopping.{AreGatheredBefore}
use Rattle.lq_solve_strongest.proofs.weaken.gathering.first_ungathered.Given as goal

abbrev pub invariant-loop-at : goal.invariant-loop-at
invariant-loop-at l = AreGatheredBefore (instances_in l.instances) (constraints_of l.implications) l.at
