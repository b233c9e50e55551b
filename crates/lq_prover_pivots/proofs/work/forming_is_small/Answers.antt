use Rattle.lq_prover_pivots.proofs.WorkLemmas.Laws.{forming}
use Rattle.lq_prover_pivots.proofs.work.forming_is_small.Goals as goal

pub returns : goal.returns
returns c = forming
