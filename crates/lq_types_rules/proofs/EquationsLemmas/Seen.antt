-- What stands in memory, level by level.
use Rattle.std.proofs.Common.{◌≡◌, ◌⊎◌, inl, inr, ℕ, ◌+◌, ◌<◌, ◌≤◌, List, [], ◌∷◌, ◌++◌, map, take, length, slice_get, get_or, Some, None, All, refl, sym, ap, subst, ◌∙◌, rules, arith}
use Rattle.std.proofs.lemmas.List.{take_more, take_all, map-append}
use Rattle.std.proofs.lemmas.Option.{slice_get_within, slice_get_cases, get_or_from_slice_get}
use Rattle.lq_base_names.specs.declared.name.Binder.{Binder}
use Rattle.lq_base_names.specs.declared.name.Name.{Name}
use Rattle.lq_base_names.specs.declared.place.Place.{Place}
use Rattle.lq_text_tree.specs.Pattern.{Pattern, pattern, PatternForm, any, bind, tuple_of, build_of, Patterns, bound_in, bound_in_form, bound_in_all}
use Rattle.lq_text_tree.specs.declared.pattern.Pat.{Pat, out-Pat}
use Rattle.lq_text_tree.specs.declared.pattern.PatNode.{PatNode, Any, Bind, Tuple, Build, the_lemmas as pat_lemmas}
use Rattle.lq_text_tree.specs.PatternView.{pat_view, pat_form_view, pats_view, pats_items, patterns_of, pat_node_step, pat_step, pats_step}
use Rattle.lq_text_tree.specs.declared.pattern.Pats.{Pats, fold_out-Pats}
use Rattle.lq_text_tree.specs.Tree.{Tree, Form, Trees, Cases}
use Rattle.lq_text_tree.specs.TreeView.{Case, Recursive, cases_of, trees_of, tree_view, trees_view, case_view, cases_view, exprs_items, arms_items, node_step, arm_step, arms_step, expr_step, exprs_step, function_step}
use Rattle.lq_text_tree.specs.declared.expr.Exprs.{Exprs, fold_out-Exprs}
use Rattle.lq_text_tree.specs.declared.expr.Arms.{Arms, fold_out-Arms}
use Rattle.lq_text_tree.specs.declared.expr.Arm.{Arm, out-Arm}
use Rattle.lq_text_tree.specs.declared.expr.Node.{the_lemmas}
use Rattle.lq_text_walk.specs.Walk.Shape.{listed, listed_cases}

listed_trees : (ts : List Tree) → listed (trees_of ts) ≡ ts
listed_trees [] = refl
listed_trees (t ∷ ts) = ap (λ (us : List Tree). t ∷ us) (listed_trees ts)

listed_arms : (cs : List Case) → listed_cases (cases_of cs) ≡ cs
listed_arms [] = refl
listed_arms (c ∷ cs) = ap (λ (ds : List Case). c ∷ ds) (listed_arms cs)

pub exprs_listed : (es : Exprs Binder) → listed (trees_view Binder (λ b. b.0) es) ≡ map (tree_view Binder (λ b. b.0)) (exprs_items Binder es)
exprs_listed es =
    ap listed (fold_out-Exprs Binder Form Case Cases Tree Trees Recursive (node_step Binder (λ b. b.0)) (arm_step Binder (λ b. b.0)) (arms_step Binder (λ b. b.0)) (expr_step Binder (λ b. b.0)) (exprs_step Binder (λ b. b.0)) (function_step Binder (λ b. b.0)) es)
    ∙ listed_trees (map (tree_view Binder (λ b. b.0)) (exprs_items Binder es))

pub arms_listed : (cs : Arms Binder) → listed_cases (cases_view Binder (λ b. b.0) cs) ≡ map (case_view Binder (λ b. b.0)) (arms_items Binder cs)
arms_listed cs =
    ap listed_cases (fold_out-Arms Binder Form Case Cases Tree Trees Recursive (node_step Binder (λ b. b.0)) (arm_step Binder (λ b. b.0)) (arms_step Binder (λ b. b.0)) (expr_step Binder (λ b. b.0)) (exprs_step Binder (λ b. b.0)) (function_step Binder (λ b. b.0)) cs)
    ∙ listed_arms (map (case_view Binder (λ b. b.0)) (arms_items Binder cs))

pub pats_listed : (ps : Pats Binder) → pats_view Binder (λ b. b.0) ps ≡ patterns_of (map (pat_view Binder (λ b. b.0)) (pats_items Binder ps))
pats_listed ps = fold_out-Pats Binder PatternForm Pattern Patterns (pat_node_step Binder (λ b. b.0)) (pat_step Binder (λ b. b.0)) (pats_step Binder (λ b. b.0)) ps

pub arm_pattern : (a : Arm Binder) → (case_view Binder (λ b. b.0) a).pattern ≡ pat_view Binder (λ b. b.0) (out-Arm Binder a).pattern
arm_pattern a = search (rules, the_lemmas)

pub arm_body : (a : Arm Binder) → (case_view Binder (λ b. b.0) a).body ≡ tree_view Binder (λ b. b.0) (out-Arm Binder a).body.value
arm_body a = search (rules, the_lemmas)

-- ---- a row, one more at a time

pub past : {X : Type 0} (xs : List X) (at : ℕ) → slice_get xs at ≡ None → length xs ≤ at
past {X = X} xs at is = by_cases (slice_get_cases xs at).1
  where
    by_cases : ((x : X) × (at < length xs) × (slice_get xs at ≡ Some x) × (get_or xs at x ≡ x)) ⊎ ((length xs ≤ at) × (slice_get xs at ≡ None)) → length xs ≤ at
    by_cases (inl some) = absurd (let e = some.2 in cc)
    by_cases (inr none) = none.0

pub past_all : {X : Type 0} (xs : List X) (at : ℕ) → length xs ≤ at → take at xs ≡ xs
past_all xs at h = take_all at xs h

pub taken_more : {X : Type 0} (xs : List X) (at : ℕ) (x : X) → slice_get xs at ≡ Some x → take (at + 1) xs ≡ take at xs ++ x ∷ []
taken_more {X} xs at x is = take_more xs at x (slice_get_within xs at x is) ∙ ap (λ (y : X). take at xs ++ y ∷ []) (get_or_from_slice_get xs at x x is)

pub one_more : {X Y : Type 0} (f : X → Y) (xs : List X) (at : ℕ) (x : X) (ys : List Y) → slice_get xs at ≡ Some x → ys ≡ map f (take at xs) → ys ++ f x ∷ [] ≡ map f (take (at + 1) xs)
one_more {X} {Y} f xs at x ys is e = ap (λ (l : List Y). l ++ f x ∷ []) e ∙ sym (map-append f (take at xs) (x ∷ [])) ∙ ap (map f) (sym (taken_more xs at x is))

pub no_more : {X Y : Type 0} (f : X → Y) (xs : List X) (at : ℕ) (ys : List Y) → slice_get xs at ≡ None → ys ≡ map f (take at xs) → ys ≡ map f (take (at + 1) xs)
no_more f xs at ys is e = let far = past xs at is in e ∙ ap (map f) (take_all at xs far ∙ sym (take_all (at + 1) xs (omega (arith, far))))

pub map_map : {X Y Z : Type 0} (f : X → Y) (g : Y → Z) (xs : List X) → map g (map f xs) ≡ map (λ x. g (f x)) xs
map_map f g [] = refl
map_map {Z = Z} f g (x ∷ xs) = ap (λ (l : List Z). g (f x) ∷ l) (map_map f g xs)

-- ---- patterns, level by level

pub pattern_seen : (p : Pat Binder) → pat_view Binder (λ b. b.0) p ≡ pattern (out-Pat Binder p).place (pat_form_view Binder (λ b. b.0) (out-Pat Binder p).node)
pattern_seen p = search (rules, pat_lemmas)

pub bind_seen : (x : Binder) → pat_form_view Binder (λ b. b.0) (Bind x) ≡ bind x.0
bind_seen x = search (rules, pat_lemmas)

pub tuple_seen : (ps : Pats Binder) → pat_form_view Binder (λ b. b.0) (Tuple ps) ≡ tuple_of (pats_view Binder (λ b. b.0) ps)
tuple_seen ps = search (rules, pat_lemmas)

pub build_seen : (c : Name) (p : Place) (ps : Pats Binder) → pat_form_view Binder (λ b. b.0) (Build c p ps) ≡ build_of c.0 p (pats_view Binder (λ b. b.0) ps)
build_seen c p ps = search (rules, pat_lemmas)

pub any_form : pat_form_view Binder (λ b. b.0) Any ≡ any
any_form = search (rules, pat_lemmas)

pub any_seen : (p : Pat Binder) → (out-Pat Binder p).node ≡ Any → pat_view Binder (λ b. b.0) p ≡ pattern (out-Pat Binder p).place any
any_seen p e = pattern_seen p ∙ ap (pattern (out-Pat Binder p).place) (ap (pat_form_view Binder (λ b. b.0)) e ∙ any_form)

pub form_binder : (f : PatNode Binder) (x : Binder) (P : ℕ → Type 0) → f ≡ Bind x → All P (bound_in_form (pat_form_view Binder (λ b. b.0) f)) → P x.0
form_binder f x P e a = let b = subst (λ (g : PatternForm). All P (bound_in_form g)) (ap (pat_form_view Binder (λ b. b.0)) e ∙ bind_seen x) a in b 0 0 (omega arith)

pub binder_in : (p : Pat Binder) (x : Binder) (P : ℕ → Type 0) → (out-Pat Binder p).node ≡ Bind x → All P (bound_in (pat_view Binder (λ b. b.0) p)) → P x.0
binder_in p x P e a = form_binder (out-Pat Binder p).node x P e (subst (λ (q : Pattern). All P (bound_in q)) (pattern_seen p) a)

pub tuple_names : (f : PatNode Binder) (ps : Pats Binder) (P : ℕ → Type 0) → f ≡ Tuple ps → All P (bound_in_form (pat_form_view Binder (λ b. b.0) f)) → All P (bound_in_all (pats_view Binder (λ b. b.0) ps))
tuple_names f ps P e a = subst (λ (g : PatternForm). All P (bound_in_form g)) (ap (pat_form_view Binder (λ b. b.0)) e ∙ tuple_seen ps) a

pub build_names : (f : PatNode Binder) (c : Name) (p : Place) (ps : Pats Binder) (P : ℕ → Type 0) → f ≡ Build c p ps → All P (bound_in_form (pat_form_view Binder (λ b. b.0) f)) → All P (bound_in_all (pats_view Binder (λ b. b.0) ps))
build_names f c p ps P e a = subst (λ (g : PatternForm). All P (bound_in_form g)) (ap (pat_form_view Binder (λ b. b.0)) e ∙ build_seen c p ps) a

pub listed_names : (ps : Pats Binder) (P : ℕ → Type 0) → All P (bound_in_all (pats_view Binder (λ b. b.0) ps)) → All P (bound_in_all (patterns_of (map (pat_view Binder (λ b. b.0)) (pats_items Binder ps))))
listed_names ps P a = subst (λ qs. All P (bound_in_all qs)) (pats_listed ps) a
