use Rattle.lq_prover_simplex.proofs.Determined.{spent_small, spent_determined}
use Rattle.lq_prover_simplex.proofs.laws.spent_limits_are_small.Goals as goal

pub returns-clause-own : goal.returns-clause-own
returns-clause-own c = spent_small c.chains_are_short.ensures

pub returns-clause-any : goal.returns-clause-any
returns-clause-any c = spent_determined c.chains_are_short.ensures
