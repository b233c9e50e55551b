use Rattle.std.proofs.Common.{◌≡◌, ◌-◌, ◌≤◌, length, take}
use Rattle.lq_prover_proof_tree.specs.Trees.TreeView.{tag_items}
use Rattle.lq_prover_case.proofs.objects.objects.tags_of.Given as goal

abbrev pub invariant-loop-reason : goal.invariant-loop-reason
invariant-loop-reason l = (tag_items l.tags ≡ take l.at l.reasons) × (l.at ≤ length l.reasons)

abbrev pub decreases-loop-reason : goal.decreases-loop-reason
decreases-loop-reason l = length l.reasons - l.at
