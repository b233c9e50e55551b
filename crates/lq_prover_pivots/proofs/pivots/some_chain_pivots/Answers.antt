use Rattle.lq_prover_pivots.proofs.PivotsLemmas.Example.{is_chain}
use Rattle.lq_prover_pivots.proofs.PivotsLemmas.Variables.{are_variables}
use Rattle.lq_prover_pivots.proofs.pivots.some_chain_pivots.Goals as goal

pub returns-clause-variables : goal.returns-clause-variables
returns-clause-variables c = are_variables

pub returns-clause-chain : goal.returns-clause-chain
returns-clause-chain c = is_chain
