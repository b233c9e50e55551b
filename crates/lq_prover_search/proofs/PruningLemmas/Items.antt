-- Trees of the code in a row, one at a time.
use Rattle.std.proofs.Common.{◌≡◌, ℕ, zero, suc, ◌+◌, ◌<◌, List, [], ◌∷◌, length, map, get_or, subst, refl, ap, ◌∙◌, arith, rules, below_more, All}
use Rattle.std.proofs.lemmas.List.Elements.{All-nil, All-cons, All-head, All-tail}
use Rattle.std.proofs.lemmas.Option.{slice_get-get_or}
use Rattle.lq_base_numbers.specs.Fractions.Value.{value_of}
use Rattle.lq_base_numbers.specs.declared.fractions.frac.Frac.{Frac}
use Rattle.lq_prover_proof_tree.specs.Trees.Tree.{Tree, Trees, any, apart, equal, absurdity, leaf, none, more}
use Rattle.lq_prover_proof_tree.specs.Trees.TreeView.{multiplier_views, tree_view, trees_view, tree_items, trees_of}
use Rattle.lq_prover_proof_tree.specs.declared.trees.tree.ProofTree.{ProofTree}
use Rattle.lq_prover_proof_tree.specs.declared.trees.tree.ProofTree.{the_lemmas}
use Rattle.lq_prover_proof_tree.specs.declared.trees.tree.Trees.{Trees as TreesOfCode}
use Rattle.lq_prover_search.specs.Pruning.Moved.{moved_tree, moved_trees}
use Rattle.lq_prover_search.specs.Pruning.Span.{IsOutside, moved}
use Rattle.lq_prover_search.specs.declared.pruning.span.Span.{Span}

abbrev mutual
  pub size : Tree → ℕ
  size (any k trees) = suc (size_each trees)
  size (apart i j trees) = suc (size_each trees)
  size (equal i j tags tree) = suc (size tree)
  size (absurdity t) = 1
  size (leaf c) = 1

  pub size_each : Trees → ℕ
  size_each none = 1
  size_each (more tree trees) = suc (size tree + size_each trees)

get_or-any : {A : Type 0} (xs : List A) (i : ℕ) (d e : A) → i < length xs → get_or xs i d ≡ get_or xs i e
get_or-any xs i d e h = let p = slice_get-get_or xs i d h in let q = slice_get-get_or xs i e h in cc

-- what holds of each item below i, and of the i-th, holds of each below i + 1
pub items_more : {A : Type 0} (P : A → Type 0) (xs : List A) (i : ℕ) (x : A) → i < length xs → x ≡ get_or xs i x → ((k : ℕ) → k < i → (d : A) → P (get_or xs k d)) → P x
    → (k : ℕ) → k < i + 1 → (d : A) → P (get_or xs k d)
items_more P xs i x h e below here = below_more (λ k. (d : _) → P (get_or xs k d)) i below (λ d. subst P (e ∙ get_or-any xs i x d h) here)

pub each_item : (P : Tree → Type 0) (E : Trees → Type 0) → E none → ((r : Tree) (rs : Trees) → P r → E rs → E (more r rs))
    → (items : List ProofTree) → ((k : ℕ) → k < length items → (d : ProofTree) → P (tree_view (get_or items k d))) → E (trees_of (map tree_view items))
each_item P E start step [] h = start
each_item P E start step (n ∷ items) h =
    step (tree_view n) (trees_of (map tree_view items)) (h 0 (omega arith) n)
    (each_item P E start step items (λ k w d. h (suc k) (omega (arith, w)) d))

-- what the row has, each item has
pub item_of_each : (P : Tree → Type 0) (E : Trees → Type 0) → ((r : Tree) (rs : Trees) → E (more r rs) → P r) → ((r : Tree) (rs : Trees) → E (more r rs) → E rs)
    → (items : List ProofTree) (k : ℕ) (d : ProofTree) → k < length items → E (trees_of (map tree_view items)) → P (tree_view (get_or items k d))
item_of_each P E here there [] k d w h = absurd (omega (arith, w))
item_of_each P E here there (n ∷ items) zero d w h = here (tree_view n) (trees_of (map tree_view items)) h
item_of_each P E here there (n ∷ items) (suc k) d w h = item_of_each P E here there items k d (omega (arith, w)) (there (tree_view n) (trees_of (map tree_view items)) h)

pub item_smaller : (items : List ProofTree) (k : ℕ) (d : ProofTree) → k < length items → size (tree_view (get_or items k d)) < size_each (trees_of (map tree_view items))
item_smaller [] k d w = absurd (omega (arith, w))
item_smaller (n ∷ items) zero d w = omega arith
item_smaller (n ∷ items) (suc k) d w = let h = item_smaller items k d (omega (arith, w)) in omega (arith, h)

pub view_items : (trees : TreesOfCode) → trees_view trees ≡ trees_of (map tree_view (tree_items trees))
view_items trees = search (rules, the_lemmas)

-- ---- rows with multipliers

pub views_outside : (s : Span) (ms : List (ℕ × Frac)) → All (λ m. IsOutside s m.0) ms → All (λ m. IsOutside s m.0) (multiplier_views ms)
views_outside s [] o = All-nil (λ m. IsOutside s m.0)
views_outside s (m ∷ ms) o =
    All-cons (λ m. IsOutside s m.0) (m.0, value_of m.1) (multiplier_views ms) (All-head (λ m. IsOutside s m.0) m ms o)
    (views_outside s ms (All-tail (λ m. IsOutside s m.0) m ms o))

pub outside_views : (s : Span) (ms : List (ℕ × Frac)) → All (λ m. IsOutside s m.0) (multiplier_views ms) → All (λ m. IsOutside s m.0) ms
outside_views s [] o = All-nil (λ m. IsOutside s m.0)
outside_views s (m ∷ ms) o =
    All-cons (λ m. IsOutside s m.0) m ms (All-head (λ m. IsOutside s m.0) (m.0, value_of m.1) (multiplier_views ms) o)
    (outside_views s ms (All-tail (λ m. IsOutside s m.0) (m.0, value_of m.1) (multiplier_views ms) o))

pub views_moved : (s : Span) (ms : List (ℕ × Frac)) → multiplier_views (map (λ m. (moved s m.0, m.1)) ms) ≡ map (λ m. (moved s m.0, m.1)) (multiplier_views ms)
views_moved s [] = refl
views_moved s (m ∷ ms) = ap (λ l. (moved s m.0, value_of m.1) ∷ l) (views_moved s ms)

pub trees_moved : (facts choices : Span) (items : List ProofTree) → trees_of (map (λ t. moved_tree facts choices (tree_view t)) items) ≡ moved_trees facts choices (trees_of (map tree_view items))
trees_moved facts choices [] = refl
trees_moved facts choices (t ∷ items) = ap (more (moved_tree facts choices (tree_view t))) (trees_moved facts choices items)
