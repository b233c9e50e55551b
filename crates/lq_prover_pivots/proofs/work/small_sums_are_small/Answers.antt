use Rattle.lq_prover_pivots.proofs.WorkLemmas.OnPart.{small_sums_are_small}
use Rattle.lq_prover_pivots.proofs.work.small_sums_are_small.Goals as goal

pub returns : goal.returns
returns c = small_sums_are_small
