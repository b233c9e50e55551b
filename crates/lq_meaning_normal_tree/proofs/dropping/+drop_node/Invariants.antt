use Rattle.std.proofs.Common.{◌≤◌}
use Rattle.lq_meaning_normal_tree.specs.declared.atom.AtomNode.{size-AtomNode}
use Rattle.lq_meaning_normal_tree.proofs.dropping.+drop_node.Given as goal

-- what is left is no deeper than what was handed in
abbrev pub invariant-loop-left : goal.invariant-loop-left
invariant-loop-left l = size-AtomNode l.left ≤ size-AtomNode l.initial.left
