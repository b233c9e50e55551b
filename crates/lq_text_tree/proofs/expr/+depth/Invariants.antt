use Rattle.std.proofs.Common.{◌≡◌, max, map, drop}
use Rattle.lq_text_tree.specs.Depth.{greatest_depth, greatest_case_depth}
use Rattle.lq_text_tree.specs.TreeView.{case_view, cases_view, cases_of, tree_view, trees_view, trees_of}
use Rattle.lq_text_tree.proofs.expr.+depth.Given as goal

abbrev pub invariant-Exprs::depth-loop-e : goal.invariant-Exprs::depth-loop-e
invariant-Exprs::depth-loop-e g l =
    max l.deepest (greatest_depth (trees_of (map (tree_view _ g.B.Ident.number) (drop l.e-index l.e-items)))) ≡ greatest_depth (trees_view _ g.B.Ident.number l.self)

abbrev pub invariant-Arms::depth-loop-arm : goal.invariant-Arms::depth-loop-arm
invariant-Arms::depth-loop-arm g l =
    max l.deepest (greatest_case_depth (cases_of (map (case_view _ g.B.Ident.number) (drop l.arm-index l.arm-items)))) ≡ greatest_case_depth (cases_view _ g.B.Ident.number l.self)
