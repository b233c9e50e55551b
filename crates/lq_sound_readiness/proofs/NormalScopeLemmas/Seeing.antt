-- What is scoped under some names is scoped under more.
use Rattle.std.proofs.Common.{◌≡◌, ℕ, Bool, true, false, ◌&&◌, ◌||◌, ◌==◌, List, [], ◌∷◌, ◌++◌, refl}
use Rattle.std.proofs.lemmas.Bool.{and_from, and_parts, or_right}
use Rattle.lq_base_names.specs.declared.place.Place.{Place}
use Rattle.lq_text_tree.specs.Pattern.{bound_in}
use Rattle.lq_text_tree.specs.Tree as form
use Rattle.lq_text_tree.specs.Tree.{Tree, tree, Form, Trees, no_trees, more_trees, Cases, no_cases, more_cases}
use Rattle.lq_text_walk.specs.Walk.Fold.{fold_all, fold_cases}
use Rattle.lq_text_walk.specs.Scoped.Uses.{is_visible, is_parameter, is_apart, all_under, arms_under, scoping, is_scoped_tree}

-- what is visible among the ones is visible among the others
abbrev pub Sub : List ℕ → List ℕ → Type 0
Sub vs ws = (x : ℕ) → is_visible vs x ≡ true → is_visible ws x ≡ true

pub sub-self : (vs : List ℕ) → Sub vs vs
sub-self vs x h = h

pub sub-then : (us vs ws : List ℕ) → Sub us vs → Sub vs ws → Sub us ws
sub-then us vs ws h k x e = k x (h x e)

by-head : (b r s : Bool) → (r ≡ true → s ≡ true) → (b || r) ≡ true → (b || s) ≡ true
by-head true r s h e = refl
by-head false r s h e = h e

-- more names before
pub sub-more : (xs vs ws : List ℕ) → Sub vs ws → Sub vs (xs ++ ws)
sub-more [] vs ws h x e = h x e
sub-more (y ∷ ys) vs ws h x e = or_right (y == x) (is_visible (ys ++ ws) x) (sub-more ys vs ws h x e)

pub sub-under : (xs vs ws : List ℕ) → Sub vs ws → Sub (xs ++ vs) (xs ++ ws)
sub-under [] vs ws h x e = h x e
sub-under (y ∷ ys) vs ws h x e = by-head (y == x) (is_visible (ys ++ vs) x) (is_visible (ys ++ ws) x) (sub-under ys vs ws h x) e

abbrev Mono : Tree → Type 0
Mono t = (vs ws : List ℕ) → Sub vs ws → is_scoped_tree vs t ≡ true → is_scoped_tree ws t ≡ true

two-mono : (a b : Tree) → Mono a → Mono b → (vs ws : List ℕ) → Sub vs ws → (is_scoped_tree vs a && is_scoped_tree vs b) ≡ true
    → (is_scoped_tree ws a && is_scoped_tree ws b) ≡ true
two-mono a b go_a go_b vs ws h s =
    let both = and_parts (is_scoped_tree vs a) (is_scoped_tree vs b) s in
    and_from (is_scoped_tree ws a) (is_scoped_tree ws b) (go_a vs ws h both.0) (go_b vs ws h both.1)

three-mono : (a b c : Tree) → Mono a → Mono b → Mono c → (vs ws : List ℕ) → Sub vs ws
    → (is_scoped_tree vs a && (is_scoped_tree vs b && is_scoped_tree vs c)) ≡ true → (is_scoped_tree ws a && (is_scoped_tree ws b && is_scoped_tree ws c)) ≡ true
three-mono a b c go_a go_b go_c vs ws h s =
    let both = and_parts (is_scoped_tree vs a) (is_scoped_tree vs b && is_scoped_tree vs c) s in
    and_from (is_scoped_tree ws a) (is_scoped_tree ws b && is_scoped_tree ws c) (go_a vs ws h both.0) (two-mono b c go_b go_c vs ws h both.1)

mutual
  pub mono : (t : Tree) → Mono t
  mono (tree i p f) vs ws h s = form-mono i p f vs ws h s

  form-mono : (i : ℕ) (p : Place) (f : Form) → Mono (tree i p f)
  form-mono i p (form.whole m) vs ws h s = refl
  form-mono i p (form.flag b) vs ws h s = refl
  form-mono i p form.unit vs ws h s = refl
  form-mono i p (form.use_of x) vs ws h s = h x s
  form-mono i p (form.qualified m x) vs ws h s = s
  form-mono i p form.assert_false vs ws h s = refl
  form-mono i p form.map_empty vs ws h s = refl
  form-mono i p (form.negated a) vs ws h s = mono a vs ws h s
  form-mono i p (form.not_of a) vs ws h s = mono a vs ws h s
  form-mono i p (form.assert a) vs ws h s = mono a vs ws h s
  form-mono i p (form.length_of a) vs ws h s = mono a vs ws h s
  form-mono i p (form.print a) vs ws h s = mono a vs ws h s
  form-mono i p (form.read a) vs ws h s = mono a vs ws h s
  form-mono i p (form.call a b) vs ws h s = two-mono a b (mono a) (mono b) vs ws h s
  form-mono i p (form.arithmetic o a b) vs ws h s = two-mono a b (mono a) (mono b) vs ws h s
  form-mono i p (form.compare o a b) vs ws h s = two-mono a b (mono a) (mono b) vs ws h s
  form-mono i p (form.and_of a b) vs ws h s = two-mono a b (mono a) (mono b) vs ws h s
  form-mono i p (form.or_of a b) vs ws h s = two-mono a b (mono a) (mono b) vs ws h s
  form-mono i p (form.make a b) vs ws h s = two-mono a b (mono a) (mono b) vs ws h s
  form-mono i p (form.fetch a b) vs ws h s = two-mono a b (mono a) (mono b) vs ws h s
  form-mono i p (form.map_find a b) vs ws h s = two-mono a b (mono a) (mono b) vs ws h s
  form-mono i p (form.if_else a b c) vs ws h s = three-mono a b c (mono a) (mono b) (mono c) vs ws h s
  form-mono i p (form.store a b c) vs ws h s = three-mono a b c (mono a) (mono b) (mono c) vs ws h s
  form-mono i p (form.map_add a b c) vs ws h s = three-mono a b c (mono a) (mono b) (mono c) vs ws h s
  form-mono i p (form.tuple es) vs ws h s = all-mono es vs ws h s
  form-mono i p (form.build c w es) vs ws h s =
      let both = and_parts (is_apart w) (all_under (fold_all scoping es) vs) s in
      and_from (is_apart w) (all_under (fold_all scoping es) ws) both.0 (all-mono es vs ws h both.1)
  form-mono i p (form.list_of es) vs ws h s = all-mono es vs ws h s
  form-mono i p (form.chain es) vs ws h s = all-mono es vs ws h s
  form-mono i p (form.fun q b) vs ws h s =
      let both = and_parts (is_parameter q) (is_scoped_tree (bound_in q ++ vs) b) s in
      and_from (is_parameter q) (is_scoped_tree (bound_in q ++ ws) b) both.0 (mono b (bound_in q ++ vs) (bound_in q ++ ws) (sub-under (bound_in q) vs ws h) both.1)
  form-mono i p (form.let_in q e b) vs ws h s =
      let both = and_parts (is_scoped_tree vs e) (is_scoped_tree (bound_in q ++ vs) b) s in
      and_from (is_scoped_tree ws e) (is_scoped_tree (bound_in q ++ ws) b) (mono e vs ws h both.0)
      (mono b (bound_in q ++ vs) (bound_in q ++ ws) (sub-under (bound_in q) vs ws h) both.1)
  form-mono i p (form.let_rec f j r q b e) vs ws h s =
      let both = and_parts (is_parameter q) (is_scoped_tree (bound_in q ++ f ∷ vs) b && is_scoped_tree (f ∷ vs) e) s in
      let parts = and_parts (is_scoped_tree (bound_in q ++ f ∷ vs) b) (is_scoped_tree (f ∷ vs) e) both.1 in
      let k = sub-under (f ∷ []) vs ws h in
      and_from (is_parameter q) (is_scoped_tree (bound_in q ++ f ∷ ws) b && is_scoped_tree (f ∷ ws) e) both.0
      (and_from (is_scoped_tree (bound_in q ++ f ∷ ws) b) (is_scoped_tree (f ∷ ws) e)
      (mono b (bound_in q ++ f ∷ vs) (bound_in q ++ f ∷ ws) (sub-under (bound_in q) (f ∷ vs) (f ∷ ws) k) parts.0) (mono e (f ∷ vs) (f ∷ ws) k parts.1))
  form-mono i p (form.match_on e cs) vs ws h s =
      let both = and_parts (is_scoped_tree vs e) (arms_under (fold_cases scoping cs) vs) s in
      and_from (is_scoped_tree ws e) (arms_under (fold_cases scoping cs) ws) (mono e vs ws h both.0) (arms-mono cs vs ws h both.1)

  pub all-mono : (es : Trees) (vs ws : List ℕ) → Sub vs ws → all_under (fold_all scoping es) vs ≡ true → all_under (fold_all scoping es) ws ≡ true
  all-mono no_trees vs ws h s = refl
  all-mono (more_trees e es) vs ws h s =
      let both = and_parts (is_scoped_tree vs e) (all_under (fold_all scoping es) vs) s in
      and_from (is_scoped_tree ws e) (all_under (fold_all scoping es) ws) (mono e vs ws h both.0) (all-mono es vs ws h both.1)

  arms-mono : (cs : Cases) (vs ws : List ℕ) → Sub vs ws → arms_under (fold_cases scoping cs) vs ≡ true → arms_under (fold_cases scoping cs) ws ≡ true
  arms-mono no_cases vs ws h s = refl
  arms-mono (more_cases q b cs) vs ws h s =
      let both = and_parts (is_scoped_tree (bound_in q ++ vs) b) (arms_under (fold_cases scoping cs) vs) s in
      and_from (is_scoped_tree (bound_in q ++ ws) b) (arms_under (fold_cases scoping cs) ws)
      (mono b (bound_in q ++ vs) (bound_in q ++ ws) (sub-under (bound_in q) vs ws h) both.0) (arms-mono cs vs ws h both.1)
