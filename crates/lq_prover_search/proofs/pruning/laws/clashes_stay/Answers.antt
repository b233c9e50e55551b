use Rattle.lq_prover_search.proofs.PruningLemmas.Clashing.{clash_stays}
use Rattle.lq_prover_search.proofs.pruning.laws.clashes_stay.Goals as goal

pub returns : goal.returns
returns c = clash_stays
