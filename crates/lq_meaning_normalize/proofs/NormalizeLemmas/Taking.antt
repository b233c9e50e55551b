-- The parts of a row and the arms of a match in memory, one after another.
use Rattle.std.proofs.Common.{◌≡◌, ◌⊎◌, ℕ, zero, suc, ◌+◌, ◌<◌, ◌≤◌, List, [], ◌∷◌, map, drop, length, slice_get, get_or, Option, Some, None, refl, sym, ap, ◌∙◌, inl, inr, arith}
use Rattle.std.proofs.lemmas.List.{drop_all, length-map}
use Rattle.std.proofs.lemmas.Option.{slice_get_cases}
use Rattle.std.specs.Option.{option_map}
use Rattle.lq_base_names.specs.declared.name.Binder.{Binder}
use Rattle.lq_text_tree.specs.Tree.{Tree, Form, Trees, Cases}
use Rattle.lq_text_tree.specs.TreeView.{Case, Recursive, scoped_view, tree_view, trees_view, case_view, cases_view, exprs_items, arms_items, node_step, arm_step, arms_step, expr_step, exprs_step, function_step}
use Rattle.lq_text_tree.specs.declared.expr.Arm.{Arm}
use Rattle.lq_text_tree.specs.declared.expr.Arms.{Arms, fold_out-Arms}
use Rattle.lq_text_tree.specs.declared.expr.Expr.{Expr}
use Rattle.lq_text_tree.specs.declared.expr.Exprs.{Exprs, fold_out-Exprs}
use Rattle.lq_text_walk.specs.Walk.Shape.{listed, listed_cases}
use Rattle.lq_meaning_normalize.proofs.PassLemmas.Parts.{one_less}
use Rattle.lq_meaning_normalize.specs.Normalize.Parts.{with_rest}
use Rattle.lq_meaning_normalize.proofs.NormalizeLemmas.Shapes.{listed_back, listed_cases_back}

map_drop : {X Y : Type 0} (f : X → Y) (n : ℕ) (xs : List X) → drop n (map f xs) ≡ map f (drop n xs)
map_drop f zero xs = refl
map_drop f (suc n) [] = refl
map_drop f (suc n) (x ∷ xs) = map_drop f n xs

take_one : {X Y : Type 0} (f : X → Y) (xs : List X) (at : ℕ) → drop at (map f xs) ≡ with_rest (option_map f (slice_get xs at)) (drop (at + 1) (map f xs))
take_one {X = X} {Y = Y} f xs at = by_cases (slice_get_cases xs at).1
  where
    by_cases : ((x : X) × (at < length xs) × (slice_get xs at ≡ Some x) × (get_or xs at x ≡ x)) ⊎ ((length xs ≤ at) × (slice_get xs at ≡ None))
        → drop at (map f xs) ≡ with_rest (option_map f (slice_get xs at)) (drop (at + 1) (map f xs))
    by_cases (inl some) =
        map_drop f at xs ∙ ap (map f) (one_less xs at some.0 some.2)
        ∙ ap (λ ys. f some.0 ∷ ys) (sym (map_drop f (at + 1) xs))
        ∙ ap (λ (o : Option X). with_rest (option_map f o) (drop (at + 1) (map f xs))) (sym some.2)
    by_cases (inr none) =
        drop_all at (map f xs) (let long = length-map xs f in let far = none.0 in omega (arith, long, far))
        ∙ ap (λ (o : Option X). with_rest (option_map f o) (drop (at + 1) (map f xs))) (sym none.1)

abbrev number : Binder → ℕ
number b = b.0

exprs_listed : (es : Exprs Binder) → listed (trees_view Binder number es) ≡ map scoped_view (exprs_items Binder es)
exprs_listed es =
    ap listed (fold_out-Exprs Binder Form Case Cases Tree Trees Recursive (node_step Binder number) (arm_step Binder number) (arms_step Binder number) (expr_step Binder number) (exprs_step Binder number) (function_step Binder number) es)
    ∙ listed_back (map scoped_view (exprs_items Binder es))

arms_listed : (cs : Arms Binder) → listed_cases (cases_view Binder number cs) ≡ map (case_view Binder number) (arms_items Binder cs)
arms_listed cs =
    ap listed_cases (fold_out-Arms Binder Form Case Cases Tree Trees Recursive (node_step Binder number) (arm_step Binder number) (arms_step Binder number) (expr_step Binder number) (exprs_step Binder number) (function_step Binder number) cs)
    ∙ listed_cases_back (map (case_view Binder number) (arms_items Binder cs))

pub part_taken : (es : Exprs Binder) (at : ℕ) (o : Option (Expr Binder)) → o ≡ slice_get (exprs_items Binder es) at
    → drop at (listed (trees_view Binder (λ b. b.0) es)) ≡ with_rest (option_map scoped_view o) (drop (at + 1) (listed (trees_view Binder (λ b. b.0) es)))
part_taken es at o is =
    ap (drop at) (exprs_listed es) ∙ take_one scoped_view (exprs_items Binder es) at
    ∙ ap (λ (p : Option (Expr Binder)). with_rest (option_map scoped_view p) (drop (at + 1) (map scoped_view (exprs_items Binder es)))) (sym is)
    ∙ ap (λ ts. with_rest (option_map scoped_view o) (drop (at + 1) ts)) (sym (exprs_listed es))

pub no_part : (es : Exprs Binder) (at : ℕ) → length (exprs_items Binder es) ≤ at → drop at (listed (trees_view Binder (λ b. b.0) es)) ≡ []
no_part es at far =
    ap (drop at) (exprs_listed es) ∙ drop_all at (map scoped_view (exprs_items Binder es)) (let long = length-map (exprs_items Binder es) scoped_view in omega (arith, long, far))

pub arm_taken : (cs : Arms Binder) (at : ℕ) (o : Option (Arm Binder)) → o ≡ slice_get (arms_items Binder cs) at
    → drop at (listed_cases (cases_view Binder (λ b. b.0) cs)) ≡ with_rest (option_map (case_view Binder (λ b. b.0)) o) (drop (at + 1) (listed_cases (cases_view Binder (λ b. b.0) cs)))
arm_taken cs at o is =
    ap (drop at) (arms_listed cs) ∙ take_one (case_view Binder number) (arms_items Binder cs) at
    ∙ ap (λ (p : Option (Arm Binder)). with_rest (option_map (case_view Binder number) p) (drop (at + 1) (map (case_view Binder number) (arms_items Binder cs)))) (sym is)
    ∙ ap (λ ts. with_rest (option_map (case_view Binder number) o) (drop (at + 1) ts)) (sym (arms_listed cs))

pub no_arm : (cs : Arms Binder) (at : ℕ) → length (arms_items Binder cs) ≤ at → drop at (listed_cases (cases_view Binder (λ b. b.0) cs)) ≡ []
no_arm cs at far =
    ap (drop at) (arms_listed cs)
    ∙ drop_all at (map (case_view Binder number) (arms_items Binder cs)) (let long = length-map (arms_items Binder cs) (case_view Binder number) in omega (arith, long, far))
