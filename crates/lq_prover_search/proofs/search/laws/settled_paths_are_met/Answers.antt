use Rattle.lq_prover_search.proofs.SearchLemmas.Settled.{ends_met}
use Rattle.lq_prover_search.proofs.search.laws.settled_paths_are_met.Goals as goal

pub returns : goal.returns
returns c = ends_met
