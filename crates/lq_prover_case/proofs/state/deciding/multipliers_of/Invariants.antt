use Rattle.std.proofs.Common.{◌≡◌, ◌-◌, length, take}
use Rattle.lq_prover_proof_tree.specs.Trees.TreeView.{multiplier_items, multiplier_views}
use Rattle.lq_prover_case.proofs.state.deciding.multipliers_of.Given as goal

abbrev pub invariant-loop-pair : goal.invariant-loop-pair
invariant-loop-pair g l =
    multiplier_views (multiplier_items l.found) ≡ take (length (multiplier_items l.found)) (g.E.LinearEngine.multipliers l.engine)

abbrev pub decreases-loop-pair : goal.decreases-loop-pair
decreases-loop-pair g l = length (g.E.LinearEngine.multipliers l.engine) - length (multiplier_items l.found)
