use Rattle.lq_prover_pivots.proofs.WorkLemmas.Laws.{exchanging}
use Rattle.lq_prover_pivots.proofs.work.exchanging_is_small.Goals as goal

pub returns : goal.returns
returns c = exchanging
