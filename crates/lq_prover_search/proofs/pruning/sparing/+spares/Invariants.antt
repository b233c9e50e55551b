use Rattle.std.proofs.Common.{ℕ, ◌<◌, get_or}
use Rattle.lq_prover_proof_tree.specs.Trees.TreeView.{tree_view, trees_view}
use Rattle.lq_prover_proof_tree.specs.declared.trees.tree.ProofTree.{ProofTree}
use Rattle.lq_prover_search.specs.Pruning.Moved.{Spares}
use Rattle.lq_prover_search.proofs.PruningLemmas.Items.{size, size_each}
use Rattle.lq_prover_search.proofs.pruning.sparing.+spares.Given as goal

abbrev pub decreases-spares : goal.decreases-spares
decreases-spares l = size (tree_view l.tree.now)

abbrev pub decreases-all_spare : goal.decreases-all_spare
decreases-all_spare l = size_each (trees_view l.trees.now)

abbrev pub invariant-all_spare-loop-tree : goal.invariant-all_spare-loop-tree
invariant-all_spare-loop-tree l = (k : ℕ) → k < l.tree-index → (d : ProofTree) → Spares l.facts l.choices (tree_view (get_or l.tree-items k d))
