-- Blocks in memory by their forms.
use Rattle.std.proofs.Common.{◌≡◌, ◌∙◌, ℕ, [], ◌∷◌, map, refl, sym, ap, rules}
use Rattle.std.specs.declared.alloc.Global.{Global}
use Rattle.std.specs.declared.boxed.Box.{Box}
use Rattle.std.specs.declared.vec.Vec.{Vec}
use Rattle.lq_meaning_normal_tree.specs.AtomView.{atom_node_step, atom_node_view, atom_step, atom_view}
use Rattle.lq_meaning_normal_tree.specs.BlockView.{Rest, binding_step, binding_view, block_step, block_view, bound_step, branch_step, branch_view, lets_view, local_view, operation_node_step, operation_node_view, operation_step, operation_view, recursive_step, recursive_view}
use Rattle.lq_meaning_normal_tree.specs.declared.atom.Atom.{Atom}
use Rattle.lq_meaning_normal_tree.specs.declared.atom.AtomNode.{AtomNode, out-AtomNode, map-AtomNode, fold_out-AtomNode}
use Rattle.lq_meaning_normal_tree.specs.declared.atom.AtomNode.TheOpen.{AtomNode-F}
use Rattle.lq_meaning_normal_tree.specs.declared.block.Binding.{Binding}
use Rattle.lq_meaning_normal_tree.specs.declared.block.Block.{Block, out-Block}
use Rattle.lq_meaning_normal_tree.specs.declared.block.Bound.{Bound, fold-Bound}
use Rattle.lq_meaning_normal_tree.specs.declared.block.Bound.TheOpen.{OperationNode-F}
use Rattle.lq_meaning_normal_tree.specs.declared.block.Bound.TheVariants as bound
use Rattle.lq_meaning_normal_tree.specs.declared.block.Branch.{Branch, out-Branch}
use Rattle.lq_meaning_normal_tree.specs.declared.block.Local.{Local}
use Rattle.lq_meaning_normal_tree.specs.declared.block.Operation.{Operation}
use Rattle.lq_meaning_normal_tree.specs.declared.block.OperationNode.{OperationNode, out-OperationNode, roll-OperationNode, roll-out-OperationNode, map-OperationNode, fold_out-OperationNode, the_lemmas}
use Rattle.lq_meaning_normal_tree.specs.declared.block.OperationNode.TheVariants as operation
use Rattle.lq_meaning_normal_tree.specs.declared.block.Recursive.{Recursive, out-Recursive}
use Rattle.lq_base_names.specs.declared.name.Binder.{Binder}
use Rattle.lq_base_names.specs.declared.place.Place.{Place}
use Rattle.lq_meaning_normal_form.specs.Outcomes.Flattening.{Let, let_one, let_function, put_in}
use Rattle.lq_text_tree.specs.PatternView.{pat_view}
use Rattle.lq_text_tree.specs.Tree.{Tree, tree, Form, use_of, fun, if_else, match_on}
use Rattle.lq_text_tree.specs.TreeView as view
use Rattle.lq_text_tree.specs.TreeView.{Case, cases_of}
use Rattle.lq_meaning_normalize.specs.MadeNames.Order.{names_of, names_of_form}
use Rattle.lq_meaning_normalize.specs.MadeNames.Parts.{names_of_function, names_of_let}

block_seen : (b : Block) → block_view b ≡ put_in (lets_view (out-Block b).bindings.items) (operation_view (out-Block b).last)
block_seen b = search (rules, the_lemmas)

operation_seen : (o : Operation) → operation_view o ≡ tree o.id o.place (operation_node_view o.node)
operation_seen o = search (rules, the_lemmas)

abbrev bound_view : Bound → Rest
bound_view = fold-Bound Rest Form Let Tree Case Tree view.Recursive bound_step operation_node_step binding_step block_step branch_step operation_step recursive_step

pub branch_seen : (b : Branch) → branch_view b ≡ record { pattern = pat_view Binder (λ x. x.0) (out-Branch b).pattern; body = block_view (out-Branch b).body }
branch_seen b = search (rules, the_lemmas)

recursive_seen : (r : Recursive) → recursive_view r
    ≡ record { id = (out-Recursive r).id; place = (out-Recursive r).place; parameter = local_view (out-Recursive r).parameter; body = block_view (out-Recursive r).body.value }
recursive_seen r = search (rules, the_lemmas)

pub function_names : (r : Recursive) → names_of_function (recursive_view r) ≡ (out-Recursive r).parameter.binder.0 ∷ names_of (block_view (out-Recursive r).body.value)
function_names r = ap names_of_function (recursive_seen r)

pub operation_names : (o : Operation) → names_of (operation_view o) ≡ names_of_form (operation_node_view o.node)
operation_names o = ap names_of (operation_seen o)

pub block_names : (b : Block) → names_of (block_view b) ≡ names_of (put_in (lets_view (out-Block b).bindings.items) (operation_view (out-Block b).last))
block_names b = ap names_of (block_seen b)

-- ---- bindings

binding_seen : (b : Binding) → binding_view b ≡ bound_view b.bound b.id b.place
binding_seen b = search (rules, the_lemmas)

seen_value : (x : Local) (o : Operation) (i : ℕ) (l : Place) → bound_view (bound.Value x o) i l ≡ let_one i l (local_view x) (operation_view o)
seen_value x o i l = search (rules, the_lemmas)

seen_function : (f : Binder) (r : Recursive) (i : ℕ) (l : Place) → bound_view (bound.Function f r) i l
    ≡ let_function i l f.0 (recursive_view r).id (recursive_view r).place (recursive_view r).parameter (recursive_view r).body
seen_function f r i l = search (rules, the_lemmas)

pub value_names : (b : Binding) (x : Local) (o : Operation) → b.bound ≡ bound.Value x o → names_of_let (binding_view b) ≡ names_of_let (let_one b.id b.place (local_view x) (operation_view o))
value_names b x o e = ap names_of_let (binding_seen b ∙ (ap (λ y. bound_view y b.id b.place) e ∙ seen_value x o b.id b.place))

pub recursive_names : (b : Binding) (f : Binder) (r : Recursive) → b.bound ≡ bound.Function f r → names_of_let (binding_view b) ≡ f.0 ∷ names_of_function (recursive_view r)
recursive_names b f r e = ap names_of_let (binding_seen b ∙ (ap (λ y. bound_view y b.id b.place) e ∙ seen_function f r b.id b.place))

-- ---- operations

pub seen_fun : (x : Local) (b : Box Block Global) → operation_node_view (operation.Fun x b) ≡ fun (local_view x) (block_view b.value)
seen_fun x b = search (rules, the_lemmas)

pub seen_if : (c : Atom) (a b : Box Block Global) → operation_node_view (operation.If c a b) ≡ if_else (atom_view c) (block_view a.value) (block_view b.value)
seen_if c a b = search (rules, the_lemmas)

pub seen_match : (i : ℕ) (x : Local) (cs : Vec Branch Global) → operation_node_view (operation.Match i x cs)
    ≡ match_on (tree i x.place (use_of x.binder.0)) (cases_of (map branch_view cs.items))
seen_match i x cs = search (rules, the_lemmas)

abbrev OperationLayer : Type 0
OperationLayer = OperationNode-F Bound OperationNode Binding Block Branch Operation Recursive

abbrev operation_layer_seen : OperationLayer → Form
operation_layer_seen l =
    operation_node_step
    (map-OperationNode Bound OperationNode Binding Block Branch Operation Recursive Rest Form Let Tree Case Tree view.Recursive
    bound_view operation_node_view binding_view block_view branch_view operation_view recursive_view l)

operation_form_is : (a : OperationNode) (l : OperationLayer) → out-OperationNode a ≡ l → operation_node_view a ≡ operation_layer_seen l
operation_form_is a l e =
    fold_out-OperationNode Rest Form Let Tree Case Tree view.Recursive bound_step operation_node_step binding_step block_step branch_step operation_step
    recursive_step a
    ∙ ap operation_layer_seen e

operation_is : (a : OperationNode) (l : OperationLayer) → out-OperationNode a ≡ l → a ≡ roll-OperationNode l
operation_is a l e = sym (roll-out-OperationNode a) ∙ ap (λ (m : OperationLayer). roll-OperationNode m) e

abbrev AtomLayer : Type 0
AtomLayer = AtomNode-F AtomNode Atom

abbrev atom_layer_seen : AtomLayer → Form
atom_layer_seen l = atom_node_step (map-AtomNode AtomNode Atom Form Tree atom_node_view atom_view l)

atom_form_is : (a : AtomNode) (l : AtomLayer) → out-AtomNode a ≡ l → atom_node_view a ≡ atom_layer_seen l
atom_form_is a l e = fold_out-AtomNode Form Tree atom_node_step atom_step a ∙ ap atom_layer_seen e

-- a pure expression binds nothing
atom_names : (a : AtomNode) → names_of_form (atom_node_view a) ≡ []
atom_names a = by_layer (out-AtomNode a) refl
  where
    by_layer : (l : AtomLayer) → out-AtomNode a ≡ l → names_of_form (atom_node_view a) ≡ []
    by_layer AtomNode-F.Unit e = ap names_of_form (atom_form_is a AtomNode-F.Unit e)
    by_layer l e = ap names_of_form (atom_form_is a l e)

-- nor does an operation without blocks of its own
pub simple_names : (a : OperationNode) → ((x : Local) (b : Box Block Global) → a ≡ operation.Fun x b → ⊥)
    → ((c : Atom) (x y : Box Block Global) → a ≡ operation.If c x y → ⊥) → ((j : ℕ) (x : Local) (cs : Vec Branch Global) → a ≡ operation.Match j x cs → ⊥)
    → names_of_form (operation_node_view a) ≡ []
simple_names a no_fun no_if no_match = by_layer (out-OperationNode a) refl
  where
    by_layer : (x : OperationLayer) → out-OperationNode a ≡ x → names_of_form (operation_node_view a) ≡ []
    by_layer (OperationNode-F.Fun x b) e = absurd (no_fun x b (operation_is a (OperationNode-F.Fun x b) e ∙ operation.rolls-Fun x b))
    by_layer (OperationNode-F.If c x y) e = absurd (no_if c x y (operation_is a (OperationNode-F.If c x y) e ∙ operation.rolls-If c x y))
    by_layer (OperationNode-F.Match j x cs) e =
        absurd (no_match j x cs (operation_is a (OperationNode-F.Match j x cs) e ∙ operation.rolls-Match j x cs))
    by_layer (OperationNode-F.Pure x) e = ap names_of_form (operation_form_is a (OperationNode-F.Pure x) e) ∙ atom_names x
    by_layer x e = ap names_of_form (operation_form_is a x e)
