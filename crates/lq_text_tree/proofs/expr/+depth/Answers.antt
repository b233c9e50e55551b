use Rattle.lq_text_tree.proofs.Depths.{greatest_depth_more, greatest_case_depth_more}
use Rattle.lq_text_tree.specs.TreeView.{case_view, tree_view}
use Rattle.lq_text_tree.proofs.expr.+depth.Goals as goal

pub Arms::depth-loop-arm-preserved : goal.Arms::depth-loop-arm-preserved
Arms::depth-loop-arm-preserved g t c =
    greatest_case_depth_more (case_view _ g.B.Ident.number) _ _ c.arm-item.result _ c.depth.result _ _ c.loop-arm-test.true c.arm-item.is c.depth.ensures c.max-deepest.ensures c.loop-arm.invariant

pub Exprs::depth-loop-e-preserved : goal.Exprs::depth-loop-e-preserved
Exprs::depth-loop-e-preserved g t c =
    greatest_depth_more (tree_view _ g.B.Ident.number) _ _ c.e-item.result _ c.depth.result _ _ c.loop-e-test.true c.e-item.is c.depth.ensures c.max-deepest.ensures c.loop-e.invariant
