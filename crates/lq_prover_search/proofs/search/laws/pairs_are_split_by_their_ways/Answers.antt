use Rattle.lq_prover_search.proofs.SearchLemmas.Splitting.{pair_split}
use Rattle.lq_prover_search.proofs.search.laws.pairs_are_split_by_their_ways.Goals as goal

pub returns : goal.returns
returns c = pair_split
