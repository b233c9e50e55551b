use Rattle.lq_prover_pivots.proofs.WorkLemmas.Levels.{levels_agree}
use Rattle.lq_prover_pivots.proofs.work.levels_agree.Goals as goal

pub returns : goal.returns
returns c = levels_agree
