-- Nodes in memory that are no tuples.
use Rattle.std.proofs.Common.{◌≡◌, ℕ, refl, sym, ap, subst, ◌∙◌, rules}
use Rattle.lq_base_names.specs.declared.name.Binder.{Binder}
use Rattle.lq_text_tree.specs.Tree.{Tree, tree, Form, Trees, Cases, tuple}
use Rattle.lq_text_tree.specs.TreeView.{Case, Recursive, scoped_view, form_view, case_view, cases_view, tree_view, trees_view, function_view, node_step, arm_step, arms_step, expr_step, exprs_step, function_step}
use Rattle.lq_text_tree.specs.declared.expr.Expr.{Expr}
use Rattle.lq_text_tree.specs.declared.expr.Exprs.{Exprs}
use Rattle.lq_text_tree.specs.declared.expr.Arm.{Arm}
use Rattle.lq_text_tree.specs.declared.expr.Arms.{Arms}
use Rattle.lq_text_tree.specs.declared.expr.Function.{Function}
use Rattle.lq_text_tree.specs.declared.expr.Node.{Node, out-Node, roll-Node, roll-out-Node, map-Node, fold_out-Node, the_lemmas}
use Rattle.lq_text_tree.specs.declared.expr.Node.TheVariants as node
use Rattle.lq_text_tree.specs.declared.expr.Node.TheOpen.{Node-F}
use Rattle.lq_text_resolve.specs.Binding.Making.{itself, spread}

abbrev number : Binder → ℕ
number b = b.0

-- a node whose parts are nodes in memory
abbrev Layer : Type 0
Layer = Node-F Binder (Node Binder) (Arm Binder) (Arms Binder) (Expr Binder) (Exprs Binder) (Function Binder)

abbrev seen : Layer → Form
seen l =
    node_step Binder number
    (map-Node Binder (Node Binder) (Arm Binder) (Arms Binder) (Expr Binder) (Exprs Binder) (Function Binder) Form Case Cases Tree Trees Recursive
    (form_view Binder number) (case_view Binder number) (cases_view Binder number) (tree_view Binder number) (trees_view Binder number) (function_view Binder number) l)

form_is : (n : Node Binder) (l : Layer) → out-Node Binder n ≡ l → form_view Binder number n ≡ seen l
form_is n l e =
    fold_out-Node Binder Form Case Cases Tree Trees Recursive (node_step Binder number) (arm_step Binder number) (arms_step Binder number) (expr_step Binder number) (exprs_step Binder number)
    (function_step Binder number) n
    ∙ ap seen e

node_is : (n : Node Binder) (l : Layer) → out-Node Binder n ≡ l → n ≡ roll-Node Binder l
node_is n l e = sym (roll-out-Node Binder n) ∙ ap (λ (m : Layer). roll-Node Binder m) e

abbrev IsNoTuple : Form → Type 0
IsNoTuple (tuple es) = ⊥
IsNoTuple f = Unit {0}

no_tuple : (n : Node Binder) → ((es : Exprs Binder) → n ≡ node.Tuple es → ⊥) → IsNoTuple (form_view Binder number n)
no_tuple n other = by_layer (out-Node Binder n) refl
  where
    by_layer : (l : Layer) → out-Node Binder n ≡ l → IsNoTuple (form_view Binder number n)
    by_layer (Node-F.Tuple es) e = absurd (other es (node_is n (Node-F.Tuple es) e ∙ node.rolls-Tuple es))
    by_layer l e = subst IsNoTuple (sym (form_is n l e)) tt

tree_is : (e : Expr Binder) → scoped_view e ≡ tree e.id e.place (form_view Binder number e.node)
tree_is e = search (rules, the_lemmas)

pub spread_other : (e : Expr Binder) → ((es : Exprs Binder) → e.node ≡ node.Tuple es → ⊥) → spread (scoped_view e) ≡ itself (scoped_view e)
spread_other e other = ap spread (tree_is e) ∙ by_form (form_view Binder number e.node) (no_tuple e.node other) ∙ ap itself (sym (tree_is e))
  where
    by_form : (f : Form) → IsNoTuple f → spread (tree e.id e.place f) ≡ itself (tree e.id e.place f)
    by_form (tuple es) no_more = absurd no_more
    by_form f no_more = refl
