use Rattle.lq_prover_pivots.proofs.WorkLemmas.Laws.{sharing}
use Rattle.lq_prover_pivots.proofs.work.sharing_is_small.Goals as goal

pub returns : goal.returns
returns c = sharing
