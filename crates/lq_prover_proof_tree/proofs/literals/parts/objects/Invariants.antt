use Rattle.std.proofs.Common.{◌≡◌, [], map, take}
use Rattle.lq_prover_proof_tree.specs.Literals.LeafView.{leaf_views}
use Rattle.lq_prover_proof_tree.specs.Literals.Parts.{objects_after}
use Rattle.lq_logic_predicates.specs.TermView.{sum_of}
use Rattle.lq_prover_proof_tree.proofs.literals.parts.objects.Given as goal

abbrev pub invariant-loop-leaf : goal.invariant-loop-leaf
invariant-loop-leaf l = map sum_of l.objects.keys ≡ objects_after [] (leaf_views (take l.leaf-index l.leaf-items))
