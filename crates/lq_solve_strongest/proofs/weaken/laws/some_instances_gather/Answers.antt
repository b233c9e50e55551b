use Rattle.lq_solve_strongest.proofs.SelectionsLemmas.Fewer.{some_gather}
use Rattle.lq_solve_strongest.proofs.WeakenLemmas.First.{first_is_not}
use Rattle.lq_solve_strongest.proofs.weaken.laws.some_instances_gather.Goals as goal

pub returns-clause-fewer : goal.returns-clause-fewer
returns-clause-fewer c = some_gather

pub returns-clause-first : goal.returns-clause-first
returns-clause-first c = first_is_not
