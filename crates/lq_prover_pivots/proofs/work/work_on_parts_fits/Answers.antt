use Rattle.lq_prover_pivots.proofs.WorkLemmas.OnPart.{work_on_parts_fits}
use Rattle.lq_prover_pivots.proofs.work.work_on_parts_fits.Goals as goal

pub returns : goal.returns
returns c = work_on_parts_fits
