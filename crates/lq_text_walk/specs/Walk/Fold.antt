-- A function on trees, given by what it makes of a node of each shape and of what it made of the parts.
use Rattle.std.specs.Prelude.{ℕ, List, [], ◌∷◌}
use Rattle.lq_base_names.specs.declared.place.Place.{Place}
use Rattle.lq_text_tree.specs.Pattern.{Pattern}
use Rattle.lq_text_tree.specs.Tree as form
use Rattle.lq_text_tree.specs.Tree.{Tree, tree, Form, Trees, no_trees, more_trees, Cases, no_cases, more_cases}
use Rattle.lq_text_walk.specs.Walk.Shape.{Leaf, whole, flag, unit, use_of, qualified, assert_false, map_empty, One, negated, not_of, assert, length_of, print, read, Two, call, arithmetic, compare, and_of, or_of, make, fetch, map_find, Three, if_else, store, map_add, Row, tuple, build, list_of, chain}

-- what was made of the body of an arm
pub record Arm {ℓ} (A : Type ℓ) : Type ℓ where
  pub pattern : Pattern
  pub body : A

-- each takes the node itself, its head, and what was made of its parts
pub record Algebra {ℓ} (A : Type ℓ) : Type ℓ where
  pub leaf : Tree → Leaf → A
  pub one : Tree → One → A → A
  pub two : Tree → Two → A → A → A
  pub three : Tree → Three → A → A → A → A
  pub row : Tree → Row → List A → A
  pub function : Tree → Pattern → A → A
  pub let_in : Tree → Pattern → A → A → A
  -- the name, the function's number, place and parameter, its body, and what follows
  pub let_rec : Tree → ℕ → ℕ → Place → Pattern → A → A → A
  pub match_on : Tree → A → List (Arm A) → A

module _ {ℓ} {A : Type ℓ} (g : Algebra A) where
  abbrev mutual
    pub fold : Tree → A
    fold (tree i p f) = fold_form (tree i p f) f

    pub fold_form : Tree → Form → A
    fold_form t (form.whole n) = g.leaf t (whole n)
    fold_form t (form.flag b) = g.leaf t (flag b)
    fold_form t form.unit = g.leaf t unit
    fold_form t (form.use_of x) = g.leaf t (use_of x)
    fold_form t (form.qualified m x) = g.leaf t (qualified m x)
    fold_form t (form.fun p b) = g.function t p (fold b)
    fold_form t (form.tuple es) = g.row t tuple (fold_all es)
    fold_form t (form.build c w es) = g.row t (build c w) (fold_all es)
    fold_form t (form.list_of es) = g.row t list_of (fold_all es)
    fold_form t (form.let_in p e b) = g.let_in t p (fold e) (fold b)
    fold_form t (form.let_rec f i q p e b) = g.let_rec t f i q p (fold e) (fold b)
    fold_form t (form.call a b) = g.two t call (fold a) (fold b)
    fold_form t (form.arithmetic o a b) = g.two t (arithmetic o) (fold a) (fold b)
    fold_form t (form.negated e) = g.one t negated (fold e)
    fold_form t (form.compare o a b) = g.two t (compare o) (fold a) (fold b)
    fold_form t (form.not_of e) = g.one t not_of (fold e)
    fold_form t (form.and_of a b) = g.two t and_of (fold a) (fold b)
    fold_form t (form.or_of a b) = g.two t or_of (fold a) (fold b)
    fold_form t (form.if_else c a b) = g.three t if_else (fold c) (fold a) (fold b)
    fold_form t (form.match_on e cs) = g.match_on t (fold e) (fold_cases cs)
    fold_form t (form.chain es) = g.row t chain (fold_all es)
    fold_form t (form.assert e) = g.one t assert (fold e)
    fold_form t form.assert_false = g.leaf t assert_false
    fold_form t (form.make a b) = g.two t make (fold a) (fold b)
    fold_form t (form.length_of e) = g.one t length_of (fold e)
    fold_form t (form.fetch a b) = g.two t fetch (fold a) (fold b)
    fold_form t (form.store a b c) = g.three t store (fold a) (fold b) (fold c)
    fold_form t (form.print e) = g.one t print (fold e)
    fold_form t (form.read e) = g.one t read (fold e)
    fold_form t form.map_empty = g.leaf t map_empty
    fold_form t (form.map_add a b c) = g.three t map_add (fold a) (fold b) (fold c)
    fold_form t (form.map_find a b) = g.two t map_find (fold a) (fold b)

    pub fold_all : Trees → List A
    fold_all no_trees = []
    fold_all (more_trees t ts) = fold t ∷ fold_all ts

    pub fold_cases : Cases → List (Arm A)
    fold_cases no_cases = []
    fold_cases (more_cases p b cs) = (record { pattern = p; body = fold b }) ∷ fold_cases cs
