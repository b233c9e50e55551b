use Rattle.lq_prover_pivots.proofs.WorkLemmas.Laws.{work_is_small}
use Rattle.lq_prover_pivots.proofs.work.work_is_small.Goals as goal

pub returns : goal.returns
returns c = work_is_small
