-- The hypotheses of the environments so far are narrow.
use Rattle.lq_refined_substitution.specs.Implications.Views.{environment_lists}
use Rattle.lq_solve_fixpoint.specs.Questions.Assigned.{instances_in}
use Rattle.lq_solve_strongest.specs.Gathering.Fitting.{AreNarrowEnvironments}
use Rattle.lq_solve_strongest.proofs.gathering.environments.are_narrow_environments.Given as goal

abbrev pub invariant-loop-env : goal.invariant-loop-env
invariant-loop-env l = AreNarrowEnvironments (instances_in l.instances) (environment_lists l.implications) l.env
