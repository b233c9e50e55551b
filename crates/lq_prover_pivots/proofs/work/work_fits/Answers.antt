use Rattle.lq_prover_pivots.proofs.WorkLemmas.Laws.{work_fits}
use Rattle.lq_prover_pivots.proofs.work.work_fits.Goals as goal

pub returns : goal.returns
returns c = work_fits
