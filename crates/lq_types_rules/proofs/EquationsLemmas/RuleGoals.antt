-- What the public calls have to show.
use Rattle.std.proofs.Common.{◌≡◌, ℕ, ◌+◌, sym, ap, subst, ◌∙◌, rules}
use Rattle.lq_base_names.specs.declared.name.Binder.{Binder}
use Rattle.lq_text_tree.specs.MlType as ml
use Rattle.lq_text_tree.specs.MlType.{MlType}
use Rattle.lq_text_tree.specs.Items.{let_of, let_rec_of}
use Rattle.lq_text_tree.specs.Pattern.{Pattern}
use Rattle.lq_text_tree.specs.PatternView.{pat_view}
use Rattle.lq_text_tree.specs.Tree.{Tree, tree}
use Rattle.lq_text_tree.specs.TreeView.{Recursive, form_view, tree_view, function_view}
use Rattle.lq_text_tree.specs.declared.expr.Expr.{Expr, out-Expr}
use Rattle.lq_text_tree.specs.declared.expr.Function.{Function, out-Function}
use Rattle.lq_text_tree.specs.declared.expr.Node.{the_lemmas}
use Rattle.lq_text_tree.specs.Types.{Signature}
use Rattle.lq_text_tree.specs.TypingRules.{ItemPatternIs}
use Rattle.lq_text_walk.specs.Walk.Shape.{Shape, shape_of}
use Rattle.lq_types_rules.specs.declared.equations.system.System.{System}
use Rattle.lq_types_rules.specs.Equations.Adding.{Adds}
use Rattle.lq_types_rules.specs.Equations.Rows.{annotation_of, number_of, FunIs, ShapeIs, NodeIs, TreeRule, FunctionRule, ItemRule}
use Rattle.lq_types_rules.proofs.EquationsLemmas.Composing.{adds_as}
use Rattle.lq_types_rules.proofs.EquationsLemmas.Forming.{numbered, shape_to, shape_from}

node_seen : (e : Expr Binder) → tree_view Binder (λ b. b.0) e ≡ tree (out-Expr Binder e).id (out-Expr Binder e).place (form_view Binder (λ b. b.0) (out-Expr Binder e).node)
node_seen e = search (rules, the_lemmas)

function_seen : (f : Function Binder) → function_view Binder (λ b. b.0) f ≡ record {
  id = (out-Function Binder f).id;
  place = (out-Function Binder f).place;
  parameter = pat_view Binder (λ b. b.0) (out-Function Binder f).parameter;
  body = tree_view Binder (λ b. b.0) (out-Function Binder f).body.value;
}
function_seen f = search (rules, the_lemmas)

pub node_rule : (g : Signature) (nodes : ℕ) (old new : System) (e : Expr Binder) (s : Shape) → s ≡ shape_of (form_view Binder (λ b. b.0) (out-Expr Binder e).node)
    → Adds old new (ShapeIs g nodes s (out-Expr Binder e).id) → Adds old new (TreeRule g nodes (tree_view Binder (λ b. b.0) e))
node_rule g nodes old new e s is a =
    let i = (out-Expr Binder e).id in
    let f = form_view Binder (λ b. b.0) (out-Expr Binder e).node in
    subst (λ t. Adds old new (TreeRule g nodes t)) (sym (node_seen e))
    (adds_as old new (ShapeIs g nodes (shape_of f) i) (NodeIs g nodes i f) (subst (λ r. Adds old new (ShapeIs g nodes r i)) is a) (λ t. shape_to nodes t g i f) (λ t. shape_from nodes t g i f))

pub function_rule : (g : Signature) (nodes : ℕ) (old new : System) (f : Function Binder) (b : ℕ) → b ≡ number_of (tree_view Binder (λ b. b.0) (out-Function Binder f).body.value)
    → Adds old new (FunIs g nodes (pat_view Binder (λ b. b.0) (out-Function Binder f).parameter) b (out-Function Binder f).id) → Adds old new (FunctionRule g nodes (function_view Binder (λ b. b.0) f))
function_rule g nodes old new f b is a =
    let i = (out-Function Binder f).id in
    let q = pat_view Binder (λ b. b.0) (out-Function Binder f).parameter in
    let body = tree_view Binder (λ b. b.0) (out-Function Binder f).body.value in
    let r : Recursive = record { id = i; place = (out-Function Binder f).place; parameter = q; body = body } in
    subst (λ s. Adds old new (FunctionRule g nodes s)) (sym (function_seen f))
    (adds_as old new (FunIs g nodes q (number_of body) i) (FunctionRule g nodes r) (subst (λ (n : ℕ). Adds old new (FunIs g nodes q n i)) is a)
    (λ t e. (e.0, e.1 ∙ ap (ml.arrow e.0) (sym (numbered nodes t body)), e.2)) (λ t e. (e.0, e.1 ∙ ap (ml.arrow e.0) (numbered nodes t body), e.2)))

pub let_rule : (nodes : ℕ) (old new : System) (q : Pattern) (e : Tree) (b : ℕ) → b ≡ number_of e → Adds old new (λ t. ItemPatternIs (annotation_of nodes t) q (t b)) → Adds old new (ItemRule nodes (let_of q e))
let_rule nodes old new q e b is a =
    adds_as old new (λ t. ItemPatternIs (annotation_of nodes t) q (t b)) (ItemRule nodes (let_of q e)) a
    (λ t h. subst (ItemPatternIs (annotation_of nodes t) q) (ap t is ∙ sym (numbered nodes t e)) h) (λ t h. subst (ItemPatternIs (annotation_of nodes t) q) (sym (ap t is ∙ sym (numbered nodes t e))) h)

pub let_rec_rule : (nodes : ℕ) (old new : System) (x : ℕ) (f : Function Binder) → Adds old new (λ t. t (out-Function Binder f).id ≡ t (nodes + x)) → Adds old new (ItemRule nodes (let_rec_of x (function_view Binder (λ b. b.0) f)))
let_rec_rule nodes old new x f a = subst (λ r. Adds old new (ItemRule nodes (let_rec_of x r))) (sym (function_seen f)) a
