use Rattle.std.proofs.Common.{◌≡◌, length}
use Rattle.lq_prover_proof_tree.specs.Trees.TreeView.{tree_view}
use Rattle.lq_prover_case.specs.Equations.Equating.{around}
use Rattle.lq_prover_case.proofs.equations.chain.wrapped.Given as goal

abbrev pub invariant-loop-joint : goal.invariant-loop-joint
invariant-loop-joint l = around l.rest.items (tree_view l.whole) ≡ around l.fn.joints.items (tree_view l.fn.tree)

abbrev pub decreases-loop-joint : goal.decreases-loop-joint
decreases-loop-joint l = length l.rest.items
