use Rattle.lq_prover_pivots.proofs.PivotsLemmas.Twice.{none_twice}
use Rattle.lq_prover_pivots.proofs.pivots.no_configuration_comes_twice.Goals as goal

pub returns : goal.returns
returns c = none_twice
