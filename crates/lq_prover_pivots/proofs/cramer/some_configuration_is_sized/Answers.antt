use Rattle.lq_prover_pivots.proofs.CramerLemmas.Example.{is_sized, is_configuration}
use Rattle.lq_prover_pivots.proofs.cramer.some_configuration_is_sized.Goals as goal

pub returns-clause-sized : goal.returns-clause-sized
returns-clause-sized c = is_sized

pub returns-clause-configuration : goal.returns-clause-configuration
returns-clause-configuration c = is_configuration
