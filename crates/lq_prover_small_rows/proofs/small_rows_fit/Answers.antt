use Rattle.lq_prover_small_rows.proofs.Fits.{near_fits, placed_fits, work_over_fits}
use Rattle.lq_prover_small_rows.proofs.Sums.{sums_are_small}
use Rattle.lq_prover_small_rows.proofs.small_rows_fit.Goals as goal

pub returns-clause-work : goal.returns-clause-work
returns-clause-work c = work_over_fits

pub returns-clause-placed : goal.returns-clause-placed
returns-clause-placed c = placed_fits

pub returns-clause-near : goal.returns-clause-near
returns-clause-near c = near_fits

pub returns-clause-sums : goal.returns-clause-sums
returns-clause-sums c = sums_are_small
