-- Past the unknowns of the environments so far.
use Rattle.lq_refined_substitution.specs.Implications.Views.{environment_lists}
use Rattle.lq_solve_strongest.specs.Weaken.Unknowns.{IsPastEnvironments}
use Rattle.lq_solve_strongest.proofs.weaken.unknowns.past_environments.Given as goal

abbrev pub invariant-loop-env : goal.invariant-loop-env
invariant-loop-env l = IsPastEnvironments (environment_lists l.implications) l.env l.past
