use Rattle.lq_prover_pivots.proofs.WorkLemmas.Example.{some_work}
use Rattle.lq_prover_pivots.proofs.work.some_work_is_small.Goals as goal

pub returns : goal.returns
returns c = some_work
