use Rattle.lq_prover_pivots.proofs.WorkLemmas.Values.{values_are_quotients}
use Rattle.lq_prover_pivots.proofs.work.values_are_quotients.Goals as goal

pub returns : goal.returns
returns c = values_are_quotients
