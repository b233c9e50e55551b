-- A list of expressions of which one is looked at, the last.
use Rattle.std.proofs.Common.{◌≡◌, ℕ, ◌+◌, ◌<◌, Bool, true, false, ◌&&◌, List, [], ◌∷◌, ◌++◌, map, length, refl, sym, ap, ◌∙◌, rules, arith, append-nil, length-append}
use Rattle.std.proofs.lemmas.List.{map-append}
use Rattle.lq_base_names.specs.declared.name.Binder.{Binder}
use Rattle.lq_text_tree.specs.Tree.{Tree, tree}
use Rattle.lq_text_tree.specs.TreeView.{tree_view, form_view}
use Rattle.lq_text_tree.specs.declared.expr.Expr.{Expr, out-Expr}
use Rattle.lq_text_tree.specs.declared.expr.Node.{the_lemmas}
use Rattle.lq_text_walk.specs.Walk.Fold.{Algebra, fold}
use Rattle.lq_text_walk.specs.Walk.Shape as shape
use Rattle.lq_text_walk.specs.Walk.Shape.{Leaf, Row, Shape, shape_of}
use Rattle.lq_text_walk.specs.Walk.Visits.{Visit, leave, visiting, visits_of, in_row}
use Rattle.lq_types_rules.specs.Typings.Uses.{valuing, all_values, is_value}
use Rattle.lq_types_infer.proofs.InferenceLemmas.Folding.{by_shape, form_folded}

tree_seen : (e : Expr Binder) → tree_view Binder (λ b. b.0) e ≡ tree (out-Expr Binder e).id (out-Expr Binder e).place (form_view Binder (λ b. b.0) (out-Expr Binder e).node)
tree_seen e = search (rules, the_lemmas)

folded_seen : {A : Type 0} (g : Algebra A) (e : Expr Binder) (s : Shape) → s ≡ shape_of (form_view Binder (λ b. b.0) (out-Expr Binder e).node)
    → fold g (tree_view Binder (λ b. b.0) e) ≡ by_shape g (tree (out-Expr Binder e).id (out-Expr Binder e).place (form_view Binder (λ b. b.0) (out-Expr Binder e).node)) s
folded_seen g e s q =
    let t = tree (out-Expr Binder e).id (out-Expr Binder e).place (form_view Binder (λ b. b.0) (out-Expr Binder e).node) in
    ap (fold g) (tree_seen e) ∙ form_folded g t (form_view Binder (λ b. b.0) (out-Expr Binder e).node) ∙ ap (by_shape g t) (sym q)

and_true : (b : Bool) → (b && true) ≡ b
and_true true = refl
and_true false = refl

and_false : (b : Bool) → (b && false) ≡ false
and_false true = refl
and_false false = refl

and_assoc : (a b c : Bool) → (a && (b && c)) ≡ ((a && b) && c)
and_assoc true b c = refl
and_assoc false b c = refl

values_append : (xs ys : List Tree) → all_values (map is_value (xs ++ ys)) ≡ (all_values (map is_value xs) && all_values (map is_value ys))
values_append [] ys = refl
values_append (x ∷ xs) ys = ap (λ b. is_value x && b) (values_append xs ys) ∙ and_assoc (is_value x) (all_values (map is_value xs)) (all_values (map is_value ys))

count : List Tree → ℕ
count ts = length (in_row (map visits_of ts))

rows_append : (xs ys : List (List Visit)) → length (in_row (xs ++ ys)) ≡ length (in_row xs) + length (in_row ys)
rows_append [] ys = omega arith
rows_append (x ∷ xs) ys = omega (arith, length-append x (in_row (xs ++ ys)), length-append x (in_row xs), rows_append xs ys)

counts : (xs ys : List Tree) → length (in_row (map visits_of (xs ++ ys))) ≡ length (in_row (map visits_of xs)) + length (in_row (map visits_of ys))
counts xs ys = ap (λ l. length (in_row l)) (map-append visits_of xs ys) ∙ rows_append (map visits_of xs) (map visits_of ys)

module _ (all rest : List Tree) (e : Expr Binder) (is : all ≡ rest ++ tree_view Binder (λ b. b.0) e ∷ []) (s : Shape) (seen : s ≡ shape_of (form_view Binder (λ b. b.0) (out-Expr Binder e).node)) where
  abbrev t : Tree
  t = tree_view Binder (λ b. b.0) e

  abbrev n : Tree
  n = tree (out-Expr Binder e).id (out-Expr Binder e).place (form_view Binder (λ b. b.0) (out-Expr Binder e).node)

  last : (x : Bool) → x ≡ all_values (map is_value all) → x ≡ (all_values (map is_value rest) && by_shape valuing n s)
  last x h = h ∙ ap (λ l. all_values (map is_value l)) is ∙ values_append rest (t ∷ []) ∙ ap (λ b. all_values (map is_value rest) && b) (and_true (is_value t) ∙ folded_seen valuing e s seen)

  -- where it is no value, not all are
  pub no_value : (x : Bool) → x ≡ all_values (map is_value all) → by_shape valuing n s ≡ false → false ≡ x
  no_value x h f = sym (last x h ∙ ap (λ b. all_values (map is_value rest) && b) f ∙ and_false (all_values (map is_value rest)))

  -- where it is one by itself, the others are left
  pub value_left : (x : Bool) → x ≡ all_values (map is_value all) → by_shape valuing n s ≡ true → x ≡ all_values (map is_value rest)
  value_left x h f = last x h ∙ ap (λ b. all_values (map is_value rest) && b) f ∙ and_true (all_values (map is_value rest))

  -- where it is one if its parts are, these are left too
  pub parts_left : (x : Bool) (parts later : List Tree) → x ≡ all_values (map is_value all) → by_shape valuing n s ≡ all_values (map is_value parts) → later ≡ rest ++ parts → x ≡ all_values (map is_value later)
  parts_left x parts later h f e' = last x h ∙ ap (λ b. all_values (map is_value rest) && b) f ∙ sym (values_append rest parts) ∙ ap (λ l. all_values (map is_value l)) (sym e')

  counted : length (in_row (map visits_of all)) ≡ length (in_row (map visits_of rest)) + length (by_shape visiting n s)
  counted = ap (λ l. length (in_row (map visits_of l))) is ∙ counts rest (t ∷ []) ∙ ap (λ (m : ℕ). length (in_row (map visits_of rest)) + m) (ap length (append-nil (visits_of t) ∙ folded_seen visiting e s seen))

  pub fewer : 0 < length (by_shape visiting n s) → length (in_row (map visits_of rest)) < length (in_row (map visits_of all))
  fewer h = let c = counted in omega arith

  pub fewer_parts : (parts later : List Tree) → length (in_row (map visits_of parts)) < length (by_shape visiting n s) → later ≡ rest ++ parts → length (in_row (map visits_of later)) < length (in_row (map visits_of all))
  fewer_parts parts later h q = let c = counted in let d = ap (λ l. length (in_row (map visits_of l))) q ∙ counts rest parts in omega arith

pub row_longer : (t : Tree) (h : Row) (parts : List Tree) → length (in_row (map visits_of parts)) < length (by_shape visiting t (shape.row h parts))
row_longer t h parts = omega (arith, length-append (in_row (map visits_of parts)) (leave t ∷ []))
