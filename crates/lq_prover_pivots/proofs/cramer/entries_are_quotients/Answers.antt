use Rattle.lq_prover_pivots.proofs.CramerLemmas.Entries.{entries_are_quotients}
use Rattle.lq_prover_pivots.proofs.cramer.entries_are_quotients.Goals as goal

pub returns : goal.returns
returns c = entries_are_quotients
