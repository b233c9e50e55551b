use Rattle.lq_prover_pivots.proofs.WorkLemmas.Laws.{moving}
use Rattle.lq_prover_pivots.proofs.work.moving_is_small.Goals as goal

pub returns : goal.returns
returns c = moving
