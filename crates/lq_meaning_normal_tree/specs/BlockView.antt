-- The trees that blocks in memory stand for: their bindings as lets around their last operations.
use Rattle.std.specs.Prelude.{ℕ, List, map}
use Rattle.lq_base_names.specs.declared.name.Binder.{Binder}
use Rattle.lq_base_names.specs.declared.operation.ArithOp.{ArithOp}
use Rattle.lq_base_names.specs.declared.operation.ArithOp.TheVariants as op
use Rattle.lq_base_names.specs.declared.place.Place.{Place}
use Rattle.lq_text_tree.specs.Items.{ItemTree, ItemForm, let_of, let_rec_of}
use Rattle.lq_text_tree.specs.Pattern.{Pattern, pattern, bind}
use Rattle.lq_text_tree.specs.PatternView.{pat_view}
use Rattle.lq_text_tree.specs.Tree.{Tree, tree, Form, Trees, use_of, fun, tuple, build, call, arithmetic, if_else, match_on, assert, assert_false, make, fetch, store, print, read, map_empty, map_add, map_find}
use Rattle.lq_text_tree.specs.TreeView as view
use Rattle.lq_text_tree.specs.TreeView.{Case, trees_of, cases_of}
use Rattle.lq_meaning_normal_form.specs.Outcomes.Flattening.{Let, let_one, let_function, put_in}
use Rattle.lq_meaning_normal_tree.specs.AtomView.{atom_node_view, atom_view}
use Rattle.lq_meaning_normal_tree.specs.declared.atom.Atom.{Atom}
use Rattle.lq_meaning_normal_tree.specs.declared.block.Binding.{Binding, fold-Binding}
use Rattle.lq_meaning_normal_tree.specs.declared.block.Block.{Block, fold-Block}
use Rattle.lq_meaning_normal_tree.specs.declared.block.Bound.TheOpen.{Bound-F, OperationNode-F, Binding-F, Block-F, Branch-F, Operation-F, Recursive-F}
use Rattle.lq_meaning_normal_tree.specs.declared.block.Branch.{Branch, fold-Branch}
use Rattle.lq_meaning_normal_tree.specs.declared.block.Local.{Local}
use Rattle.lq_meaning_normal_tree.specs.declared.block.Operation.{Operation, fold-Operation}
use Rattle.lq_meaning_normal_tree.specs.declared.block.OperationNode.{OperationNode, fold-OperationNode}
use Rattle.lq_meaning_normal_tree.specs.declared.block.Quotient.{Quotient}
use Rattle.lq_meaning_normal_tree.specs.declared.block.Quotient.TheVariants as quotient
use Rattle.lq_meaning_normal_tree.specs.declared.block.Recursive.{Recursive, fold-Recursive}
use Rattle.lq_meaning_normal_tree.specs.declared.item.Definition.{Definition}
use Rattle.lq_meaning_normal_tree.specs.declared.item.DefinitionNode.{DefinitionNode}
use Rattle.lq_meaning_normal_tree.specs.declared.item.DefinitionNode.TheVariants as node

abbrev pub quotient_of : Quotient → ArithOp
quotient_of quotient.Div = op.Div
quotient_of quotient.Mod = op.Mod

-- a variable where it stands for a pattern
abbrev pub local_view : Local → Pattern
local_view x = pattern x.place (bind x.binder.0)

abbrev pub atoms_view : List Atom → Trees
atoms_view as_ = trees_of (map atom_view as_)

-- what a binding binds, without its number and place
abbrev pub Rest : Type 0
Rest = ℕ → Place → Let

-- one level, with what is inside already seen
abbrev pub bound_step : Bound-F Rest Form Let Tree Case Tree view.Recursive → Rest
bound_step (Bound-F.Value x o) = λ i p. let_one i p (local_view x) o
bound_step (Bound-F.Function f r) = λ i p. let_function i p f.0 r.id r.place r.parameter r.body

abbrev pub operation_node_step : OperationNode-F Rest Form Let Tree Case Tree view.Recursive → Form
operation_node_step (OperationNode-F.Pure a) = atom_node_view a
operation_node_step (OperationNode-F.Fun x b) = fun (local_view x) b.value
operation_node_step (OperationNode-F.Tuple as_) = tuple (atoms_view as_.items)
operation_node_step (OperationNode-F.Build c w as_) = build c.0 w (atoms_view as_.items)
operation_node_step (OperationNode-F.Call f a) = call (atom_view f) (atom_view a)
operation_node_step (OperationNode-F.Divide o a b) = arithmetic (quotient_of o) (atom_view a) (atom_view b)
operation_node_step (OperationNode-F.If c a b) = if_else (atom_view c) a.value b.value
operation_node_step (OperationNode-F.Match i x cs) = match_on (tree i x.place (use_of x.binder.0)) (cases_of cs.items)
operation_node_step (OperationNode-F.Assert a) = assert (atom_view a)
operation_node_step OperationNode-F.AssertFalse = assert_false
operation_node_step (OperationNode-F.Make n a) = make (atom_view n) (atom_view a)
operation_node_step (OperationNode-F.Fetch a n) = fetch (atom_view a) (atom_view n)
operation_node_step (OperationNode-F.Store a n e) = store (atom_view a) (atom_view n) (atom_view e)
operation_node_step (OperationNode-F.Print a) = print (atom_view a)
operation_node_step (OperationNode-F.Read a) = read (atom_view a)
operation_node_step OperationNode-F.MapEmpty = map_empty
operation_node_step (OperationNode-F.MapAdd k e m) = map_add (atom_view k) (atom_view e) (atom_view m)
operation_node_step (OperationNode-F.MapFind k m) = map_find (atom_view k) (atom_view m)

abbrev pub binding_step : Binding-F Rest Form Let Tree Case Tree view.Recursive → Let
binding_step b = b.bound b.id b.place

abbrev pub block_step : Block-F Rest Form Let Tree Case Tree view.Recursive → Tree
block_step b = put_in b.bindings.items b.last

abbrev pub branch_step : Branch-F Rest Form Let Tree Case Tree view.Recursive → Case
branch_step b = record { pattern = pat_view Binder (λ x. x.0) b.pattern; body = b.body }

abbrev pub operation_step : Operation-F Rest Form Let Tree Case Tree view.Recursive → Tree
operation_step o = tree o.id o.place o.node

abbrev pub recursive_step : Recursive-F Rest Form Let Tree Case Tree view.Recursive → view.Recursive
recursive_step r = record { id = r.id; place = r.place; parameter = local_view r.parameter; body = r.body.value }

abbrev pub operation_node_view : OperationNode → Form
operation_node_view = fold-OperationNode Rest Form Let Tree Case Tree view.Recursive bound_step operation_node_step binding_step block_step branch_step operation_step recursive_step

abbrev pub binding_view : Binding → Let
binding_view = fold-Binding Rest Form Let Tree Case Tree view.Recursive bound_step operation_node_step binding_step block_step branch_step operation_step recursive_step

abbrev pub block_view : Block → Tree
block_view = fold-Block Rest Form Let Tree Case Tree view.Recursive bound_step operation_node_step binding_step block_step branch_step operation_step recursive_step

abbrev pub branch_view : Branch → Case
branch_view = fold-Branch Rest Form Let Tree Case Tree view.Recursive bound_step operation_node_step binding_step block_step branch_step operation_step recursive_step

abbrev pub operation_view : Operation → Tree
operation_view = fold-Operation Rest Form Let Tree Case Tree view.Recursive bound_step operation_node_step binding_step block_step branch_step operation_step recursive_step

abbrev pub recursive_view : Recursive → view.Recursive
recursive_view = fold-Recursive Rest Form Let Tree Case Tree view.Recursive bound_step operation_node_step binding_step block_step branch_step operation_step recursive_step

-- the lets that bindings are
abbrev pub lets_view : List Binding → List Let
lets_view = map binding_view

-- ---- programs

abbrev pub definition_form_view : DefinitionNode → ItemForm
definition_form_view (node.Value p b) = let_of (pat_view Binder (λ x. x.0) p) (block_view b)
definition_form_view (node.Function f r) = let_rec_of f.0 (recursive_view r)

abbrev pub definition_view : Definition → ItemTree
definition_view d = record { place = d.place; form = definition_form_view d.node }

abbrev pub definitions_view : List Definition → List ItemTree
definitions_view = map definition_view
