-- A leaf behind equal results.
use Rattle.std.proofs.Common.{List, [], ◌∷◌}
use Rattle.lq_prover_proof_tree.specs.Trees.Tree.{Clash, leaf}
use Rattle.lq_prover_decide.specs.Deciding.{IsChainOfEquals}
use Rattle.lq_prover_case.specs.Equations.Equating.{around}
use Rattle.lq_prover_case.specs.declared.equations.chain.Joint.{Joint}

pub chain_of : (joints : List Joint) (c : Clash) → IsChainOfEquals (around joints (leaf c))
chain_of [] c = tt
chain_of (j ∷ joints) c = chain_of joints c
