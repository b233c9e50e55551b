-- The implications so far are narrow.
use Rattle.lq_refined_substitution.specs.Implications.Views.{implication_items}
use Rattle.lq_solve_fixpoint.specs.Questions.Assigned.{instances_in}
use Rattle.lq_solve_strongest.specs.Gathering.Fitting.{AreNarrowImplications}
use Rattle.lq_solve_strongest.proofs.gathering.fitting.are_narrow_implications.Given as goal

abbrev pub invariant-loop-at : goal.invariant-loop-at
invariant-loop-at l = AreNarrowImplications (instances_in l.instances) (implication_items l.implications) l.at
