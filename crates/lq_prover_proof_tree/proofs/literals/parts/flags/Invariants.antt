use Rattle.std.proofs.Common.{◌≡◌, [], take}
use Rattle.lq_prover_proof_tree.specs.Literals.LeafView.{leaf_views}
use Rattle.lq_prover_proof_tree.specs.Literals.Parts.{flags_after}
use Rattle.lq_prover_proof_tree.proofs.literals.parts.flags.Given as goal

abbrev pub invariant-loop-leaf : goal.invariant-loop-leaf
invariant-loop-leaf l = l.flags.keys ≡ flags_after [] (leaf_views (take l.leaf-index l.leaf-items))
