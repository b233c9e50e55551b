use Rattle.std.proofs.Common.{◌≤◌}
use Rattle.lq_text_tree.specs.declared.expr.Expr.{size-Expr}
use Rattle.lq_text_tree.proofs.dropping.+drop_tree.Given as goal

-- what is left is no deeper than what was handed in
abbrev pub invariant-drop_tree-loop-q : goal.invariant-drop_tree-loop-q
invariant-drop_tree-loop-q g l = size-Expr _ l.left ≤ size-Expr _ l.initial.left
