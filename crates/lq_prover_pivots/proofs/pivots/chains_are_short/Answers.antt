use Rattle.lq_prover_pivots.proofs.PivotsLemmas.Counting.{at_most_so_many}
use Rattle.lq_prover_pivots.proofs.pivots.chains_are_short.Goals as goal

pub returns : goal.returns
returns c = at_most_so_many
