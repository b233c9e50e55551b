use Rattle.std.proofs.Common.{◌≡◌, map, take}
use Rattle.lq_prover_proof_tree.specs.Trees.TreeView.{tree_items, tree_view, trees_view}
use Rattle.lq_prover_search.specs.Pruning.Moved.{moved_tree}
use Rattle.lq_prover_search.proofs.PruningLemmas.Items.{size, size_each}
use Rattle.lq_prover_search.proofs.pruning.moving.+without.Given as goal

abbrev pub decreases-without : goal.decreases-without
decreases-without l = size (tree_view l.tree.now)

abbrev pub decreases-all_without : goal.decreases-all_without
decreases-all_without l = size_each (trees_view l.trees.now)

abbrev pub invariant-all_without-loop-tree : goal.invariant-all_without-loop-tree
invariant-all_without-loop-tree l = map tree_view (tree_items l.all) ≡ map (λ t. moved_tree l.facts l.choices (tree_view t)) (take l.tree-index l.tree-items)
