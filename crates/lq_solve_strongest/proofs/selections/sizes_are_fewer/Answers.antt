use Rattle.lq_solve_strongest.proofs.SelectionsLemmas.Fewer.{sizes_are_fewer}
use Rattle.lq_solve_strongest.proofs.selections.sizes_are_fewer.Goals as goal

pub returns : goal.returns
returns c = sizes_are_fewer
