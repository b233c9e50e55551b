use Rattle.std.proofs.Common.{map, drop}
use Rattle.lq_prover_proof_tree.specs.Literals.LeafView.{leaf_views}
use Rattle.lq_prover_proof_tree.specs.Literals.Sources.{leaf_source}
use Rattle.lq_prover_proof_tree.proofs.LiteralsLemmas.Leading.{Leads}
use Rattle.lq_prover_proof_tree.proofs.literals.ungathered.first_past_leaf.Given as goal

abbrev pub invariant-loop-leaf : goal.invariant-loop-leaf
invariant-loop-leaf l = Leads (map leaf_source (leaf_views (drop l.leaf-index l.leaves))) (map leaf_source (leaf_views l.leaves))
