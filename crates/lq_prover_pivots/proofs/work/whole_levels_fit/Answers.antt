use Rattle.lq_prover_pivots.proofs.WorkLemmas.Laws.{whole_levels_fit}
use Rattle.lq_prover_pivots.proofs.work.whole_levels_fit.Goals as goal

pub returns : goal.returns
returns c = whole_levels_fit
