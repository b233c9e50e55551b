use Rattle.lq_solve_strongest.proofs.SelectionsLemmas.Small.{fewer_are_small}
use Rattle.lq_solve_strongest.proofs.selections.fewer_are_small.Goals as goal

pub returns : goal.returns
returns c = fewer_are_small
