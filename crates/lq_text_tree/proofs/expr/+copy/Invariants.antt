use Rattle.std.proofs.Common.{◌≡◌, map, take}
use Rattle.lq_text_tree.specs.TreeView.{case_view, tree_view}
use Rattle.lq_text_tree.proofs.expr.+copy.Given as goal

abbrev pub invariant-Arms::copy-loop-arm : goal.invariant-Arms::copy-loop-arm
invariant-Arms::copy-loop-arm g l =
    map (case_view _ g.B.Ident.number) l.items.items ≡ map (case_view _ g.B.Ident.number) (take l.arm-index l.arm-items)

abbrev pub invariant-Exprs::copy-loop-e : goal.invariant-Exprs::copy-loop-e
invariant-Exprs::copy-loop-e g l =
    map (tree_view _ g.B.Ident.number) l.items.items ≡ map (tree_view _ g.B.Ident.number) (take l.e-index l.e-items)
