use Rattle.lq_prover_pivots.proofs.WorkLemmas.Part.{parts_are_small}
use Rattle.lq_prover_pivots.proofs.work.parts_are_small.Goals as goal

pub returns : goal.returns
returns c = parts_are_small
