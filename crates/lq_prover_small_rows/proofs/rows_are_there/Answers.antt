use Rattle.lq_prover_small_rows.proofs.There.{rows_there, sizes_are}
use Rattle.lq_prover_small_rows.proofs.rows_are_there.Goals as goal

pub returns-clause-there : goal.returns-clause-there
returns-clause-there c = rows_there

pub returns-clause-sizes : goal.returns-clause-sizes
returns-clause-sizes c = sizes_are
