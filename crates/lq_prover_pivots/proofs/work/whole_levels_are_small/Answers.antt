use Rattle.lq_prover_pivots.proofs.WorkLemmas.Laws.{whole_level}
use Rattle.lq_prover_pivots.proofs.work.whole_levels_are_small.Goals as goal

pub returns : goal.returns
returns c = whole_level
