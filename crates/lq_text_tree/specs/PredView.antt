-- The written predicate that stands in memory.
use Rattle.lq_text_tree.specs.PredTree.{PredTree, pred_tree, PredForm, flag, whole, use_of, placeholder, applied, qualified, arithmetic, negated, compare, not_of, and_of, or_of, iff}
use Rattle.lq_text_tree.specs.declared.pred_expr.PredExpr.{PredExpr, fold-PredExpr}
use Rattle.lq_text_tree.specs.declared.pred_expr.PredNode.TheOpen.{PredNode-F, PredExpr-F}

-- one level, with each predicate inside already seen
abbrev pub pred_node_step : PredNode-F PredForm PredTree → PredForm
pred_node_step (PredNode-F.Flag b) = flag b
pred_node_step (PredNode-F.Whole n) = whole n
pred_node_step (PredNode-F.Use x) = use_of x.0
pred_node_step (PredNode-F.Placeholder x) = placeholder x.0
pred_node_step (PredNode-F.Apply f e) = applied f.0 e.value
pred_node_step (PredNode-F.Qualified m f e) = qualified m.0 f.0 e.value
pred_node_step (PredNode-F.Arith o a b) = arithmetic o a.value b.value
pred_node_step (PredNode-F.Neg e) = negated e.value
pred_node_step (PredNode-F.Compare o a b) = compare o a.value b.value
pred_node_step (PredNode-F.Not e) = not_of e.value
pred_node_step (PredNode-F.And a b) = and_of a.value b.value
pred_node_step (PredNode-F.Or a b) = or_of a.value b.value
pred_node_step (PredNode-F.Iff a b) = iff a.value b.value

abbrev pub pred_step : PredExpr-F PredForm PredTree → PredTree
pred_step p = pred_tree p.place p.node

abbrev pub pred_view : PredExpr → PredTree
pred_view = fold-PredExpr PredForm PredTree pred_node_step pred_step
