use Rattle.lq_prover_pivots.proofs.WorkLemmas.PartExample.{some_part}
use Rattle.lq_prover_pivots.proofs.work.some_part_is_small.Goals as goal

pub returns : goal.returns
returns c = some_part
