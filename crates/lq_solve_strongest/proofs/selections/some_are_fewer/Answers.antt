use Rattle.lq_solve_strongest.proofs.SelectionsLemmas.Fewer.{some_are_fewer}
use Rattle.lq_solve_strongest.proofs.selections.some_are_fewer.Goals as goal

pub returns : goal.returns
returns c = some_are_fewer
