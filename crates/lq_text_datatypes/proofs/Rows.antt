-- Rows of written types in memory.
use Rattle.std.proofs.Common.{◌≡◌, ◌⊎◌, ℕ, zero, suc, ◌+◌, ◌-◌, ◌<◌, ◌≤◌, List, [], ◌∷◌, ◌++◌, map, drop, take, length, slice_get, get_or, Some, None, refl, sym, ap, ◌∙◌, arith, inl, inr}
use Rattle.std.proofs.lemmas.List.{length-map, map-append, reverse-append, take_more, take_all}
use Rattle.std.proofs.lemmas.Option.{slice_get_within, slice_get_cases, get_or_from_slice_get}
use Rattle.lq_text_tree.specs.TypeTree.{TypeTree, TypeForm, TypeTrees}
use Rattle.lq_text_tree.specs.TypeView.{type_view, types_view, type_exprs_items, type_trees_of, type_node_step, type_expr_step, type_exprs_step}
use Rattle.lq_text_tree.specs.declared.type_expr.TypeExpr.{TypeExpr}
use Rattle.lq_text_tree.specs.declared.type_expr.TypeExprs.{TypeExprs, fold_out-TypeExprs}
use Rattle.lq_text_tree.specs.Items.{Named}
use Rattle.lq_text_tree.specs.MlType.{MlType, MlTypes, more_types}
use Rattle.lq_text_tree.specs.Signatures.{written, all_written}
use Rattle.lq_text_tree.specs.SimpleTypeView.{simple_type_view, simple_types_view, simple_types_items, types_of}
use Rattle.lq_text_tree.specs.declared.simple_type.SimpleType.{SimpleType}
use Rattle.lq_text_tree.specs.declared.simple_type.SimpleTypes.{SimpleTypes}
use Rattle.lq_text_datatypes.proofs.Stacks.{row_seen}
use Rattle.lq_text_datatypes.specs.Tasks as plain
use Rattle.lq_text_datatypes.specs.Tasks.{enter, listed}
use Rattle.lq_text_datatypes.specs.Views.{task_view, tasks_view, types_in}
use Rattle.lq_text_datatypes.specs.declared.simple.Task.{Task}

pub types_listed : (ts : TypeExprs) → types_view ts ≡ type_trees_of (map type_view (type_exprs_items ts))
types_listed ts = fold_out-TypeExprs TypeForm TypeTree TypeTrees type_node_step type_expr_step type_exprs_step ts

listed_back : (ts : List TypeTree) → listed (type_trees_of ts) ≡ ts
listed_back [] = refl
listed_back (t ∷ ts) = ap (λ (us : List TypeTree). t ∷ us) (listed_back ts)

pub row_listed : (ts : TypeExprs) → listed (types_view ts) ≡ map type_view (type_exprs_items ts)
row_listed ts = ap listed (types_listed ts) ∙ listed_back (map type_view (type_exprs_items ts))

pub row_count : (ts : TypeExprs) → length (type_exprs_items ts) ≡ length (listed (types_view ts))
row_count ts = sym (ap length (row_listed ts) ∙ length-map (type_exprs_items ts) type_view)

abbrev pub entering : TypeExpr → plain.Task
entering t = enter (type_view t)

pub tasks_more : (ts : List Task) (t : Task) → tasks_view (ts ++ t ∷ []) ≡ task_view t ∷ tasks_view ts
tasks_more ts t = ap (map task_view) (reverse-append ts (t ∷ []))

drop_here : {X : Type 0} (xs : List X) (i : ℕ) (x : X) → slice_get xs i ≡ Some x → drop i xs ≡ x ∷ drop (suc i) xs
drop_here [] i x is = absurd (let e = is in cc)
drop_here (y ∷ xs) zero x is = let same : y ≡ x = cc in ap (λ z. z ∷ xs) same
drop_here (y ∷ xs) (suc i) x is = drop_here xs i x is

pub pushed_before : (xs : List TypeExpr) (count at : ℕ) (x : TypeExpr) (base old new : List plain.Task) → at < count → slice_get xs (count - 1 - at) ≡ Some x
    → old ≡ map entering (drop (count - at) xs) ++ base → new ≡ entering x ∷ old → new ≡ map entering (drop (count - (at + 1)) xs) ++ base
pushed_before xs count at x base old new less is before then =
    let here : count - (at + 1) ≡ count - 1 - at = omega (arith, less) in
    let next : count - at ≡ suc (count - 1 - at) = omega (arith, less) in
    then ∙ ap (λ (l : List plain.Task). entering x ∷ l) (before ∙ ap (λ (n : ℕ). map entering (drop n xs) ++ base) next)
    ∙ sym (ap (λ (n : ℕ). map entering (drop n xs) ++ base) here ∙ ap (λ (l : List TypeExpr). map entering l ++ base) (drop_here xs (count - 1 - at) x is))

pub past : {X : Type 0} (xs : List X) (at : ℕ) → slice_get xs at ≡ None → length xs ≤ at
past {X = X} xs at is = by_cases (slice_get_cases xs at).1
  where
    by_cases : ((x : X) × (at < length xs) × (slice_get xs at ≡ Some x) × (get_or xs at x ≡ x)) ⊎ ((length xs ≤ at) × (slice_get xs at ≡ None)) → length xs ≤ at
    by_cases (inl some) = absurd (let e = some.2 in cc)
    by_cases (inr none) = none.0

pub none_left : (xs : List TypeExpr) (count at : ℕ) → count ≡ length xs → at < count → slice_get xs (count - 1 - at) ≡ None → ⊥
none_left xs count at is less none = let far = past xs (count - 1 - at) none in omega (arith, is, less, far)

entered_all : (ts : List TypeExpr) → map entering ts ≡ map enter (map type_view ts)
entered_all [] = refl
entered_all (t ∷ ts) = ap (λ (l : List plain.Task). entering t ∷ l) (entered_all ts)

pub all_pushed : (ts : TypeExprs) (count at : ℕ) (base now : List plain.Task) → count ≤ at → now ≡ map entering (drop (count - at) (type_exprs_items ts)) ++ base
    → now ≡ map enter (listed (types_view ts)) ++ base
all_pushed ts count at base now over is =
    let none : count - at ≡ 0 = omega (arith, over) in
    is ∙ ap (λ (n : ℕ). map entering (drop n (type_exprs_items ts)) ++ base) none
    ∙ ap (λ (l : List plain.Task). l ++ base) (entered_all (type_exprs_items ts) ∙ ap (map enter) (sym (row_listed ts)))

longer_at : {X : Type 0} (xs : List X) (at : ℕ) (x : X) → slice_get xs at ≡ Some x → take (at + 1) xs ≡ take at xs ++ x ∷ []
longer_at {X} xs at x is = take_more xs at x (slice_get_within xs at x is) ∙ ap (λ (y : X). take at xs ++ y ∷ []) (get_or_from_slice_get xs at x x is)

-- one of a row more is made
pub made_more : (by : TypeExpr → MlType) (xs : List TypeExpr) (at : ℕ) (x : TypeExpr) (front : List SimpleType) (y : SimpleType) → slice_get xs at ≡ Some x → simple_type_view y ≡ by x
    → types_in front ≡ map by (take at xs) → types_in (front ++ y ∷ []) ≡ map by (take (at + 1) xs)
made_more by xs at x front y here is before =
    map-append simple_type_view front (y ∷ []) ∙ ap (λ (l : List MlType). l ++ simple_type_view y ∷ []) before ∙ ap (λ (m : MlType). map by (take at xs) ++ m ∷ []) is
    ∙ sym (ap (map by) (longer_at xs at x here) ∙ map-append by (take at xs) (x ∷ []))

pub made_none : (by : TypeExpr → MlType) (xs : List TypeExpr) (at : ℕ) → slice_get xs at ≡ None → map by (take at xs) ≡ map by (take (at + 1) xs)
made_none by xs at none = let far = past xs at none in ap (map by) (take_all at xs far ∙ sym (take_all (at + 1) xs (omega (arith, far))))

all_is : (ps : List Named) (ts : List TypeExpr) → types_of (map (λ t. written ps (type_view t)) ts) ≡ all_written ps (type_trees_of (map type_view ts))
all_is ps [] = refl
all_is ps (t ∷ ts) = ap (λ (us : MlTypes). more_types (written ps (type_view t)) us) (all_is ps ts)

-- a whole row is made
pub made_all : (ps : List Named) (ts : TypeExprs) (at : ℕ) (row : SimpleTypes) → length (type_exprs_items ts) ≤ at
    → types_in (simple_types_items row) ≡ map (λ t. written ps (type_view t)) (take at (type_exprs_items ts)) → simple_types_view row ≡ all_written ps (types_view ts)
made_all ps ts at row far is =
    row_seen row ∙ ap types_of (is ∙ ap (map (λ t. written ps (type_view t))) (take_all at (type_exprs_items ts) far)) ∙ all_is ps (type_exprs_items ts) ∙ ap (all_written ps) (sym (types_listed ts))
