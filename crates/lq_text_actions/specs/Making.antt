-- What a builder has made.
use Rattle.std.specs.Prelude.{Bool, true, false, List}
use Rattle.lq_base_names.specs.declared.name.Name.{Name}
use Rattle.lq_text_tree.specs.PredTree as pred
use Rattle.lq_text_tree.specs.PredTree.{PredTree, PredForm}
use Rattle.lq_text_tree.specs.Tree.{Tree, tree, Form, flag, call, and_of, or_of, arithmetic, compare, chain, tuple, list_of}
use Rattle.lq_text_tree.specs.TreeView.{form_view, trees_of}
use Rattle.lq_text_tree.specs.declared.expr.Node.{Node}
use Rattle.lq_text_actions.specs.Value.{Making, Commas, bare, absent}
use Rattle.lq_text_actions.specs.Views.{views}
use Rattle.lq_text_actions.specs.declared.blocks.Row.{Row}
use Rattle.lq_text_actions.specs.declared.blocks.Row.TheVariants as row
use Rattle.lq_text_actions.specs.declared.builder.Builder.{Builder}
use Rattle.lq_text_actions.specs.declared.operands.Two.{Two}
use Rattle.lq_text_actions.specs.declared.operands.Two.TheVariants as two
use Rattle.lq_text_actions.specs.declared.predicates.Join.{Join}
use Rattle.lq_text_actions.specs.declared.predicates.Join.TheVariants as join

abbrev pub making_view : Builder → Making
making_view b = record { made = b.made; values = views b.values.items }

abbrev pub parsed_form : Node Name → Form
parsed_form = form_view Name (λ n. n.0)

-- the literal `false`
abbrev pub is_false : Tree → Bool
is_false (tree n p (flag false)) = true
is_false _ = false

-- the form of two expressions with this between them
abbrev pub two_form : Two → Tree → Tree → Form
two_form two.Call = call
two_form two.And = and_of
two_form two.Or = or_of
two_form (two.Arith o) = arithmetic o
two_form (two.Compare o) = compare o

-- the form of a row, and where its commas stand
abbrev pub row_form : Row → List Tree → Form
row_form row.Chain = λ es. chain (trees_of es)
row_form row.Tuple = λ es. tuple (trees_of es)
row_form row.List = λ es. list_of (trees_of es)

abbrev pub row_commas : Row → Commas
row_commas row.Chain = absent
row_commas row.Tuple = bare
row_commas row.List = absent

-- the form of two predicates or terms with this between them
abbrev pub join_form : Join → PredTree → PredTree → PredForm
join_form join.And = pred.and_of
join_form join.Or = pred.or_of
join_form join.Iff = pred.iff
join_form (join.Arith o) = pred.arithmetic o
join_form (join.Compare o) = pred.compare o
