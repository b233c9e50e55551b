-- A function on trees, by the shape of a node.
use Rattle.std.proofs.Common.{◌≡◌, ◌∷◌, List, map, refl, ap}
use Rattle.lq_text_tree.specs.Tree as form
use Rattle.lq_text_tree.specs.Tree.{Tree, tree, Form, Trees, no_trees, more_trees, Cases, no_cases, more_cases}
use Rattle.lq_text_tree.specs.TreeView.{Case}
use Rattle.lq_text_walk.specs.Walk.Fold.{Arm, Algebra, fold, fold_form, fold_all, fold_cases}
use Rattle.lq_text_walk.specs.Walk.Shape as shape
use Rattle.lq_text_walk.specs.Walk.Shape.{Shape, shape_of, listed, listed_cases}

module _ {A : Type 0} (g : Algebra A) where
  abbrev pub arm_of : Case → Arm A
  arm_of c = record { pattern = c.pattern; body = fold g c.body }

  -- what is made of a node of this shape
  abbrev pub by_shape : Tree → Shape → A
  by_shape t (shape.leaf h) = g.leaf t h
  by_shape t (shape.one h a) = g.one t h (fold g a)
  by_shape t (shape.two h a b) = g.two t h (fold g a) (fold g b)
  by_shape t (shape.three h a b c) = g.three t h (fold g a) (fold g b) (fold g c)
  by_shape t (shape.row h ts) = g.row t h (map (fold g) ts)
  by_shape t (shape.function p b) = g.function t p (fold g b)
  by_shape t (shape.let_in p e b) = g.let_in t p (fold g e) (fold g b)
  by_shape t (shape.let_rec f i q p e b) = g.let_rec t f i q p (fold g e) (fold g b)
  by_shape t (shape.match_on e cs) = g.match_on t (fold g e) (map arm_of cs)

  all_folded : (ts : Trees) → fold_all g ts ≡ map (fold g) (listed ts)
  all_folded no_trees = refl
  all_folded (more_trees t ts) = ap (λ (as_ : List A). fold g t ∷ as_) (all_folded ts)

  cases_folded : (cs : Cases) → fold_cases g cs ≡ map arm_of (listed_cases cs)
  cases_folded no_cases = refl
  cases_folded (more_cases p b cs) = ap (λ (as_ : List (Arm A)). record { pattern = p; body = fold g b } ∷ as_) (cases_folded cs)

  pub form_folded : (t : Tree) (f : Form) → fold_form g t f ≡ by_shape t (shape_of f)
  form_folded t (form.whole n) = refl
  form_folded t (form.flag b) = refl
  form_folded t form.unit = refl
  form_folded t (form.use_of x) = refl
  form_folded t (form.qualified m x) = refl
  form_folded t (form.fun p b) = refl
  form_folded t (form.tuple es) = ap (g.row t shape.tuple) (all_folded es)
  form_folded t (form.build c w es) = ap (g.row t (shape.build c w)) (all_folded es)
  form_folded t (form.list_of es) = ap (g.row t shape.list_of) (all_folded es)
  form_folded t (form.let_in p e b) = refl
  form_folded t (form.let_rec f i q p e b) = refl
  form_folded t (form.call a b) = refl
  form_folded t (form.arithmetic o a b) = refl
  form_folded t (form.negated e) = refl
  form_folded t (form.compare o a b) = refl
  form_folded t (form.not_of e) = refl
  form_folded t (form.and_of a b) = refl
  form_folded t (form.or_of a b) = refl
  form_folded t (form.if_else c a b) = refl
  form_folded t (form.match_on e cs) = ap (g.match_on t (fold g e)) (cases_folded cs)
  form_folded t (form.chain es) = ap (g.row t shape.chain) (all_folded es)
  form_folded t (form.assert e) = refl
  form_folded t form.assert_false = refl
  form_folded t (form.make a b) = refl
  form_folded t (form.length_of e) = refl
  form_folded t (form.fetch a b) = refl
  form_folded t (form.store a b c) = refl
  form_folded t (form.print e) = refl
  form_folded t (form.read e) = refl
  form_folded t form.map_empty = refl
  form_folded t (form.map_add a b c) = refl
  form_folded t (form.map_find a b) = refl
