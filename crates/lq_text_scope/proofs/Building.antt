-- The arguments of a constructor in memory.
use Rattle.std.specs.Prelude.{nat_lt}
use Rattle.std.proofs.Common.{◌≡◌, ℕ, ◌<◌, true, List, [], ◌∷◌, map, length, slice_get, Some, None, refl, sym, ap, ◌∙◌, if◌then◌else◌, rules}
use Rattle.std.proofs.lemmas.Bool.Decides.{Decides-ltb}
use Rattle.std.proofs.lemmas.List.{length-map}
use Rattle.lq_base_names.specs.declared.name.Name.{Name}
use Rattle.lq_text_tree.specs.Tree.{Tree, Form, Trees, Cases}
use Rattle.lq_text_tree.specs.TreeView.{Case, Recursive, trees_of, node_step, arm_step, arms_step, expr_step, exprs_step, function_step, form_view, tree_view, trees_view, exprs_items}
use Rattle.lq_text_tree.specs.declared.expr.Expr.{Expr, out-Expr}
use Rattle.lq_text_tree.specs.declared.expr.Exprs.{Exprs, fold_out-Exprs}
use Rattle.lq_text_tree.specs.declared.expr.Node.{the_lemmas}
use Rattle.lq_text_tree.specs.declared.expr.Arguments.TheVariants.{Listed}
use Rattle.lq_text_walk.specs.Walk.Shape as shape
use Rattle.lq_text_walk.specs.Walk.Shape.{Shape, shape_of, listed}
use Rattle.lq_text_scope.specs.Uses.{as_arguments, given_to, shape_in}

abbrev pub parts_of : Exprs Name → List Tree
parts_of es = listed (trees_view Name (λ n. n.0) es)

abbrev pub seen : Expr Name → Tree
seen = tree_view Name (λ n. n.0)

listed_trees : (ts : List Tree) → listed (trees_of ts) ≡ ts
listed_trees [] = refl
listed_trees (t ∷ ts) = ap (λ (us : List Tree). t ∷ us) (listed_trees ts)

pub parts_listed : (es : Exprs Name) → parts_of es ≡ map seen (exprs_items Name es)
parts_listed es =
    ap listed (fold_out-Exprs Name Form Case Cases Tree Trees Recursive (node_step Name (λ n. n.0)) (arm_step Name (λ n. n.0)) (arms_step Name (λ n. n.0)) (expr_step Name (λ n. n.0)) (exprs_step Name (λ n. n.0)) (function_step Name (λ n. n.0)) es)
    ∙ listed_trees (map seen (exprs_items Name es))

pub parts_counted : (es : Exprs Name) → length (exprs_items Name es) ≡ length (parts_of es)
parts_counted es = sym (ap length (parts_listed es) ∙ length-map (exprs_items Name es) seen)

pub tuple_given : (wanted n : ℕ) (es : Exprs Name) → n ≡ length (exprs_items Name es) → 1 < wanted → n ≡ as_arguments wanted (shape.row shape.tuple (parts_of es))
tuple_given wanted n es is more =
    let test : nat_lt 1 wanted ≡ true = (Decides-ltb 1 wanted).1 more in
    is ∙ parts_counted es ∙ sym (ap (λ t. if t then length (parts_of es) else 1) test)

shape_seen : (e : Expr Name) → shape_in (seen e) ≡ shape_of (form_view Name (λ n. n.0) (out-Expr Name e).node)
shape_seen e = search (rules, the_lemmas)

pub first_given : (wanted : ℕ) (es : Exprs Name) (e : Expr Name) → slice_get (exprs_items Name es) 0 ≡ Some e
    → as_arguments wanted (shape_of (form_view Name (λ n. n.0) (out-Expr Name e).node)) ≡ given_to wanted Listed (parts_of es)
first_given wanted es e is = by_items (exprs_items Name es) is ∙ sym (ap (given_to wanted Listed) (parts_listed es))
  where
    by_items : (xs : List (Expr Name)) → slice_get xs 0 ≡ Some e → as_arguments wanted (shape_of (form_view Name (λ n. n.0) (out-Expr Name e).node)) ≡ given_to wanted Listed (map seen xs)
    by_items [] none = absurd (let it = none in cc)
    by_items (x ∷ xs) some = let same : x ≡ e = cc in sym (ap (λ y. as_arguments wanted (shape_in (seen y))) same ∙ ap (as_arguments wanted) (shape_seen e))

pub none_given : (wanted : ℕ) (es : Exprs Name) → slice_get (exprs_items Name es) 0 ≡ None → 0 ≡ given_to wanted Listed (parts_of es)
none_given wanted es is = by_items (exprs_items Name es) is ∙ sym (ap (given_to wanted Listed) (parts_listed es))
  where
    by_items : (xs : List (Expr Name)) → slice_get xs 0 ≡ None → 0 ≡ given_to wanted Listed (map seen xs)
    by_items [] none = refl
    by_items (x ∷ xs) none = absurd (let it = none in cc)
