use Rattle.lq_solve_strongest.proofs.SelectionsLemmas.Differences.{fewer_are_differences}
use Rattle.lq_solve_strongest.proofs.selections.fewer_are_differences.Goals as goal

pub returns : goal.returns
returns c = fewer_are_differences
