use Rattle.std.proofs.Common.{◌≡◌, ◌++◌}
use Rattle.lq_logic_predicates.specs.PredView.{formula_of}
use Rattle.lq_prover_proof_tree.specs.Literals.Leaves.{leaves_of}
use Rattle.lq_prover_proof_tree.specs.Literals.LeafView.{signs_of, leaf_views, waiting_leaves, waiting_size}
use Rattle.lq_prover_proof_tree.proofs.literals.leaf.add_leaves.Given as goal

abbrev pub invariant-loop-next : goal.invariant-loop-next
invariant-loop-next l =
    leaf_views l.leaves.items ++ waiting_leaves l.waiting.items ≡ leaf_views l.fn.leaves.items ++ leaves_of (signs_of l.fn.polarity) (formula_of l.fn.pred)

abbrev pub decreases-loop-next : goal.decreases-loop-next
decreases-loop-next l = waiting_size l.waiting.items
