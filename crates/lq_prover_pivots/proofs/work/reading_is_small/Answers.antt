use Rattle.lq_prover_pivots.proofs.WorkLemmas.Laws.{reading}
use Rattle.lq_prover_pivots.proofs.work.reading_is_small.Goals as goal

pub returns : goal.returns
returns c = reading
