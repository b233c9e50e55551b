use Rattle.std.proofs.Common.{◌≡◌, map, take}
use Rattle.lq_logic_predicates.specs.PredView.{formula_of, pred_items}
use Rattle.lq_prover_proof_tree.specs.Literals.Leaves.{each_leaves}
use Rattle.lq_prover_proof_tree.specs.Literals.LeafView.{leaf_views}
use Rattle.lq_prover_proof_tree.proofs.literals.leaf.leaves_of.Given as goal

abbrev pub invariant-loop-pred : goal.invariant-loop-pred
invariant-loop-pred l = leaf_views l.leaves.items ≡ each_leaves (map formula_of (take l.pred-index (pred_items l.implication.hypotheses)))
