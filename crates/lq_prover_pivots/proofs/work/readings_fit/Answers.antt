use Rattle.lq_prover_pivots.proofs.WorkLemmas.Laws.{readings_fit}
use Rattle.lq_prover_pivots.proofs.work.readings_fit.Goals as goal

pub returns : goal.returns
returns c = readings_fit
