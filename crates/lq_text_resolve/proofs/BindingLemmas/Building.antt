-- The arguments of constructors, and the arms of matches.
use Rattle.std.specs.Prelude.{◌==◌, ◌&&◌}
use Rattle.std.proofs.Common.{◌≡◌, ℕ, zero, suc, ◌+◌, ◌≤◌, Bool, true, false, cond, List, [], ◌∷◌, ◌++◌, map, drop, length, slice_get, Option, Some, refl, sym, ap, ◌∙◌, arith}
use Rattle.std.proofs.lemmas.Bool.Decides.{Decides-eqb}
use Rattle.std.proofs.lemmas.List.{append_assoc, append-nil, drop_all, length-map}
use Rattle.std.proofs.lemmas.Option.{slice_get_within, get_or_from_slice_get}
use Rattle.lq_base_names.specs.declared.place.Place.{Place}
use Rattle.lq_text_tree.specs.declared.expr.Arguments.{Arguments}
use Rattle.lq_text_tree.specs.declared.expr.Arguments.TheVariants.{Apart, Listed}
use Rattle.lq_text_tree.specs.Tree as form
use Rattle.lq_text_tree.specs.Tree.{Tree, Trees, Form, Cases}
use Rattle.lq_text_tree.specs.TreeView.{Case, Recursive, trees_of, cases_of, exprs_items, arms_items, tree_view, trees_view, case_view, cases_view, node_step, arm_step, arms_step, expr_step, exprs_step, function_step}
use Rattle.lq_text_tree.specs.declared.expr.Arm.{Arm}
use Rattle.lq_text_tree.specs.declared.expr.Arms.{Arms, fold_out-Arms}
use Rattle.lq_text_tree.specs.declared.expr.Exprs.{Exprs, fold_out-Exprs}
use Rattle.lq_text_walk.specs.Walk.Shape.{listed, listed_cases}
use Rattle.lq_base_names.specs.declared.name.Binder.{Binder}
use Rattle.lq_base_names.specs.declared.name.Name.{Name}
use Rattle.lq_text_resolve.specs.Binding.Views.{arms_in}
use Rattle.lq_text_resolve.proofs.BindingLemmas.PatternRows.{drop_by}
use Rattle.lq_text_walk.specs.Walk.Shape as shape
use Rattle.lq_text_scope.specs.Known.{arity_in}
use Rattle.lq_text_resolve.specs.Binding.Machine.{Machine, finish, apart_left, arm_with, arms_from, first, rest, first_tree, rest_trees, last_trees, listed_left, row_left, below, top, values_below}
use Rattle.lq_text_resolve.specs.Binding.Making.{is_one, node, of_listed, part, spreads, takes_more}

pub one_is : (n : ℕ) → (n == 1) ≡ is_one n
one_is zero = refl
one_is (suc zero) = refl
one_is (suc (suc n)) = by_test (suc (suc n) == 1) refl
  where
    by_test : (t : Bool) → (suc (suc n) == 1) ≡ t → (suc (suc n) == 1) ≡ false
    by_test true is = absurd (let same = (Decides-eqb (suc (suc n)) 1).0 is in omega (arith, same))
    by_test false is = is

-- ---- rows and arms in memory

trees_back : (ts : List Tree) → listed (trees_of ts) ≡ ts
trees_back [] = refl
trees_back (t ∷ ts) = ap (λ (us : List Tree). t ∷ us) (trees_back ts)

cases_back : (as_ : List Case) → listed_cases (cases_of as_) ≡ as_
cases_back [] = refl
cases_back (a ∷ as_) = ap (λ (bs : List Case). a ∷ bs) (cases_back as_)

abbrev name_of : Name → ℕ
name_of n = n.0

pub parts_count : (es : Exprs Name) → length (exprs_items Name es) ≡ length (listed (trees_view Name (λ n. n.0) es))
parts_count es =
    sym (ap (λ (ts : Trees). length (listed ts)) (exprs_listed es) ∙ ap length (trees_back (map (tree_view Name name_of) (exprs_items Name es)))
    ∙ length-map (exprs_items Name es) (tree_view Name name_of))
  where
    exprs_listed : (es : Exprs Name) → trees_view Name name_of es ≡ trees_of (map (tree_view Name name_of) (exprs_items Name es))
    exprs_listed es =
        fold_out-Exprs Name Form Case Cases Tree Trees Recursive (node_step Name name_of) (arm_step Name name_of) (arms_step Name name_of) (expr_step Name name_of) (exprs_step Name name_of)
        (function_step Name name_of) es

pub arms_listed : (as_ : Arms Name) → listed_cases (cases_view Name (λ n. n.0) as_) ≡ map (case_view Name (λ n. n.0)) (arms_items Name as_)
arms_listed as_ =
    ap listed_cases
    (fold_out-Arms Name Form Case Cases Tree Trees Recursive (node_step Name name_of) (arm_step Name name_of) (arms_step Name name_of) (expr_step Name name_of) (exprs_step Name name_of)
    (function_step Name name_of) as_)
    ∙ cases_back (map (case_view Name name_of) (arms_items Name as_))

pub arms_count : (as_ : Arms Name) → length (arms_items Name as_) ≡ length (listed_cases (cases_view Name (λ n. n.0) as_))
arms_count as_ = sym (ap length (arms_listed as_) ∙ length-map (arms_items Name as_) (case_view Name name_of))

pub arms_whole : (as_ : Arms Binder) → cases_view Binder (λ b. b.0) as_ ≡ cases_of (arms_in as_)
arms_whole as_ =
    fold_out-Arms Binder Form Case Cases Tree Trees Recursive (node_step Binder (λ b. b.0)) (arm_step Binder (λ b. b.0)) (arms_step Binder (λ b. b.0)) (expr_step Binder (λ b. b.0))
    (exprs_step Binder (λ b. b.0)) (function_step Binder (λ b. b.0)) as_

map_drop : {X Y : Type 0} (f : X → Y) (n : ℕ) (xs : List X) → drop n (map f xs) ≡ map f (drop n xs)
map_drop f zero xs = refl
map_drop f (suc n) [] = refl
map_drop f (suc n) (x ∷ xs) = map_drop f n xs

-- the arm at a place, and what is behind it
pub arm_here : (as_ : Arms Name) (at : ℕ) (a : Arm Name) → slice_get (arms_items Name as_) at ≡ Some a
    → drop at (listed_cases (cases_view Name (λ n. n.0) as_)) ≡ case_view Name (λ n. n.0) a ∷ drop (at + 1) (listed_cases (cases_view Name (λ n. n.0) as_))
arm_here as_ at a is =
    ap (drop at) (arms_listed as_) ∙ map_drop (case_view Name name_of) at (arms_items Name as_)
    ∙ ap (map (case_view Name name_of)) (drop_by (arms_items Name as_) at a (slice_get_within (arms_items Name as_) at a is) (sym (get_or_from_slice_get (arms_items Name as_) at a a is)))
    ∙ ap (λ (l : List Case). case_view Name name_of a ∷ l) (sym (map_drop (case_view Name name_of) (at + 1) (arms_items Name as_)) ∙ ap (drop (at + 1)) (sym (arms_listed as_)))

-- one arm more
pub one_arm : (p : Place) (a : Case) (rest_of : List Case) (done new whole : List Case) (ns ms : List ℕ) (ts us : List Tree) (n : ℕ) (t : Tree)
    → n ≡ first ns → ms ≡ rest ns → t ≡ first_tree p ts → us ≡ rest_trees ts → new ≡ done ++ arm_with a n t ∷ []
    → done ++ arms_from p (a ∷ rest_of) ns ts ≡ whole → new ++ arms_from p rest_of ms us ≡ whole
one_arm p a rest_of done new whole ns ms ts us n t starts left tops below is before =
    ap (λ (l : List Case). l ++ arms_from p rest_of ms us) is ∙ append_assoc done (arm_with a n t ∷ []) (arms_from p rest_of ms us)
    ∙ ap (λ (l : List Case). done ++ l)
    (ap (λ (k : ℕ). arm_with a k t ∷ arms_from p rest_of ms us) starts ∙ ap (λ (b : Tree). arm_with a (first ns) b ∷ arms_from p rest_of ms us) tops
    ∙ ap (λ (l : List ℕ). arm_with a (first ns) (first_tree p ts) ∷ arms_from p rest_of l us) left
    ∙ ap (λ (l : List Tree). arm_with a (first ns) (first_tree p ts) ∷ arms_from p rest_of (rest ns) l) below)
    ∙ before

-- all arms
pub all_arms : (p : Place) (as_ : List Case) (at : ℕ) (done whole : List Case) (ns : List ℕ) (ts : List Tree) → length as_ ≤ at
    → done ++ arms_from p (drop at as_) ns ts ≡ whole → done ≡ whole
all_arms p as_ at done whole ns ts far before = sym (append-nil done) ∙ ap (λ (l : List Case). done ++ arms_from p l ns ts) (sym (drop_all at as_ far)) ∙ before
