use Rattle.lq_solve_strongest.proofs.SelectionsLemmas.Fewer.{some_gather}
use Rattle.lq_solve_strongest.proofs.selections.some_can_be_gathered.Goals as goal

pub returns : goal.returns
returns c = some_gather
