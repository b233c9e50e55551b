use Rattle.lq_prover_pivots.proofs.WorkLemmas.Fits.{small_fit}
use Rattle.lq_prover_pivots.proofs.work.small_needs_fit.Goals as goal

pub returns : goal.returns
returns c = small_fit
