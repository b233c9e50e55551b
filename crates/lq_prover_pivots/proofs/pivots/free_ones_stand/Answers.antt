use Rattle.lq_prover_pivots.proofs.PivotsLemmas.Standing.{all_stand}
use Rattle.lq_prover_pivots.proofs.pivots.free_ones_stand.Goals as goal

pub returns : goal.returns
returns c = all_stand
