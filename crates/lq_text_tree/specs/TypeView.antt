-- The written type that stands in memory.
use Rattle.std.specs.Prelude.{List, [], ◌∷◌}
use Rattle.lq_text_tree.specs.TypeTree.{TypeTree, type_tree, TypeForm, variable, apply, product, arrow, TypeTrees, no_type_trees, more_type_trees}
use Rattle.lq_text_tree.specs.declared.type_expr.TypeExpr.{TypeExpr, fold-TypeExpr}
use Rattle.lq_text_tree.specs.declared.type_expr.TypeExprs.{TypeExprs, fold-TypeExprs, out-TypeExprs}
use Rattle.lq_text_tree.specs.declared.type_expr.TypeNode.TheOpen.{TypeNode-F, TypeExpr-F, TypeExprs-F}

abbrev pub type_trees_of : List TypeTree → TypeTrees
type_trees_of [] = no_type_trees
type_trees_of (t ∷ ts) = more_type_trees t (type_trees_of ts)

-- the types of a row
abbrev pub type_exprs_items : TypeExprs → List TypeExpr
type_exprs_items ts = (out-TypeExprs ts).items.items

-- one level, with each type inside already seen
abbrev pub type_node_step : TypeNode-F TypeForm TypeTree TypeTrees → TypeForm
type_node_step (TypeNode-F.Var x) = variable x.0
type_node_step (TypeNode-F.Apply ts c p) = apply ts c.0 p
type_node_step (TypeNode-F.Tuple ts) = product ts
type_node_step (TypeNode-F.Arrow a b) = arrow a.value b.value

abbrev pub type_expr_step : TypeExpr-F TypeForm TypeTree TypeTrees → TypeTree
type_expr_step t = type_tree t.place t.node

abbrev pub type_exprs_step : TypeExprs-F TypeForm TypeTree TypeTrees → TypeTrees
type_exprs_step ts = type_trees_of ts.items.items

abbrev pub type_view : TypeExpr → TypeTree
type_view = fold-TypeExpr TypeForm TypeTree TypeTrees type_node_step type_expr_step type_exprs_step

abbrev pub types_view : TypeExprs → TypeTrees
types_view = fold-TypeExprs TypeForm TypeTree TypeTrees type_node_step type_expr_step type_exprs_step
