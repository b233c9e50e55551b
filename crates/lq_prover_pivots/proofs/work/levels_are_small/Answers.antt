use Rattle.lq_prover_pivots.proofs.WorkLemmas.Laws.{level}
use Rattle.lq_prover_pivots.proofs.work.levels_are_small.Goals as goal

pub returns : goal.returns
returns c = level
