-- How deep trees nest. A step down a tree counts where a text nests by it: into a construct with a keyword, a bracket or a minus before
-- all of its parts, and into each part behind the first one. Parts that commas and semicolons alone separate count alike, and no step
-- into the first part of a form that begins with it counts.
use Rattle.std.specs.Prelude.{ℕ, ◌+◌, max, List, [], ◌∷◌}
use Rattle.lq_text_tree.specs.Items.{ItemTree, ItemForm, type_of, let_of, let_rec_of, Construct}
use Rattle.lq_text_tree.specs.PredTree as pred
use Rattle.lq_text_tree.specs.PredTree.{PredTree, PredForm}
use Rattle.lq_text_tree.specs.Tree.{Tree, tree, Form, whole, flag, unit, use_of, qualified, fun, tuple, build, list_of, let_in, let_rec, call, arithmetic, negated, compare, not_of, and_of, or_of, if_else, match_on, chain, assert, assert_false, make, length_of, fetch, store, print, read, map_empty, map_add, map_find, Trees, no_trees, more_trees, Cases, no_cases, more_cases}
use Rattle.lq_text_tree.specs.TypeTree as ty
use Rattle.lq_text_tree.specs.TypeTree.{TypeTree, TypeForm, TypeTrees}

-- the greatest number of steps that count, on a path of a tree
abbrev mutual
  pub nesting : Tree → ℕ
  nesting (tree i p f) = nesting_in f

  pub nesting_in : Form → ℕ
  nesting_in (whole n) = 0
  nesting_in (flag b) = 0
  nesting_in unit = 0
  nesting_in (use_of x) = 0
  nesting_in (qualified m x) = 0
  nesting_in (fun p b) = nesting b + 1
  nesting_in (tuple es) = nesting_of_all es
  nesting_in (build c w es) = nesting_of_row es
  nesting_in (list_of es) = nesting_of_all es + 1
  nesting_in (let_in p e b) = max (nesting e) (nesting b) + 1
  nesting_in (let_rec f i p q e b) = max (nesting e + 1) (nesting b) + 1
  nesting_in (call f a) = max (nesting f) (nesting a + 1)
  nesting_in (arithmetic o a b) = max (nesting a) (nesting b + 1)
  nesting_in (negated e) = nesting e + 1
  nesting_in (compare o a b) = max (nesting a) (nesting b + 1)
  nesting_in (not_of e) = nesting e + 1
  nesting_in (and_of a b) = max (nesting a) (nesting b + 1)
  nesting_in (or_of a b) = max (nesting a) (nesting b + 1)
  nesting_in (if_else c a b) = max (nesting c) (max (nesting a) (nesting b)) + 1
  nesting_in (match_on e cs) = max (nesting e) (nesting_of_cases cs) + 1
  nesting_in (chain es) = nesting_of_all es
  nesting_in (assert e) = nesting e + 1
  nesting_in assert_false = 0
  nesting_in (make n e) = max (nesting n) (nesting e + 1)
  nesting_in (length_of a) = nesting a
  nesting_in (fetch a i) = max (nesting a) (nesting i + 1)
  nesting_in (store a i e) = max (nesting a) (max (nesting i) (nesting e) + 1)
  nesting_in (print e) = nesting e
  nesting_in (read e) = nesting e
  nesting_in map_empty = 0
  nesting_in (map_add k e m) = max (nesting k) (max (nesting e) (nesting m) + 1)
  nesting_in (map_find k m) = max (nesting k) (nesting m + 1)

  -- the parts count alike
  pub nesting_of_all : Trees → ℕ
  nesting_of_all no_trees = 0
  nesting_of_all (more_trees e es) = max (nesting e) (nesting_of_all es)

  -- the parts behind the first count one more
  pub nesting_of_row : Trees → ℕ
  nesting_of_row no_trees = 0
  nesting_of_row (more_trees e es) = max (nesting e) (nesting_of_rest es)

  pub nesting_of_rest : Trees → ℕ
  nesting_of_rest no_trees = 0
  nesting_of_rest (more_trees e es) = max (nesting e + 1) (nesting_of_rest es)

  pub nesting_of_cases : Cases → ℕ
  nesting_of_cases no_cases = 0
  nesting_of_cases (more_cases p e cs) = max (nesting e) (nesting_of_cases cs)

-- the same in a written type
abbrev mutual
  pub type_nesting : TypeTree → ℕ
  type_nesting (ty.type_tree p f) = type_nesting_in f

  pub type_nesting_in : TypeForm → ℕ
  type_nesting_in (ty.variable x) = 0
  type_nesting_in (ty.apply ts c p) = type_nesting_of_row ts
  type_nesting_in (ty.product ts) = type_nesting_of_all ts
  type_nesting_in (ty.arrow a b) = max (type_nesting a) (type_nesting b + 1)

  pub type_nesting_of_all : TypeTrees → ℕ
  type_nesting_of_all ty.no_type_trees = 0
  type_nesting_of_all (ty.more_type_trees t ts) = max (type_nesting t) (type_nesting_of_all ts)

  pub type_nesting_of_row : TypeTrees → ℕ
  type_nesting_of_row ty.no_type_trees = 0
  type_nesting_of_row (ty.more_type_trees t ts) = max (type_nesting t) (type_nesting_of_rest ts)

  pub type_nesting_of_rest : TypeTrees → ℕ
  type_nesting_of_rest ty.no_type_trees = 0
  type_nesting_of_rest (ty.more_type_trees t ts) = max (type_nesting t + 1) (type_nesting_of_rest ts)

-- the same in a written predicate
abbrev mutual
  pub pred_nesting : PredTree → ℕ
  pred_nesting (pred.pred_tree p f) = pred_nesting_in f

  pub pred_nesting_in : PredForm → ℕ
  pred_nesting_in (pred.flag b) = 0
  pred_nesting_in (pred.whole n) = 0
  pred_nesting_in (pred.use_of x) = 0
  pred_nesting_in (pred.placeholder x) = 0
  pred_nesting_in (pred.applied f e) = pred_nesting e + 1
  pred_nesting_in (pred.qualified m f e) = pred_nesting e + 1
  pred_nesting_in (pred.arithmetic o a b) = max (pred_nesting a) (pred_nesting b + 1)
  pred_nesting_in (pred.negated e) = pred_nesting e + 1
  pred_nesting_in (pred.compare o a b) = max (pred_nesting a) (pred_nesting b + 1)
  pred_nesting_in (pred.not_of e) = pred_nesting e + 1
  pred_nesting_in (pred.and_of a b) = max (pred_nesting a) (pred_nesting b + 1)
  pred_nesting_in (pred.or_of a b) = max (pred_nesting a) (pred_nesting b + 1)
  pred_nesting_in (pred.iff a b) = max (pred_nesting a) (pred_nesting b + 1)

-- the same in the constructors of a datatype, and in an item
abbrev pub constructors_nesting : List Construct → ℕ
constructors_nesting [] = 0
constructors_nesting (c ∷ cs) = max (type_nesting_of_all c.fields) (constructors_nesting cs)

abbrev pub item_nesting : ItemForm → ℕ
item_nesting (type_of d) = constructors_nesting d.constructors
item_nesting (let_of p e) = nesting e
item_nesting (let_rec_of f r) = nesting r.body + 1

-- the same in the items of a program
abbrev pub items_nesting : List ItemTree → ℕ
items_nesting [] = 0
items_nesting (i ∷ is) = max (item_nesting i.form) (items_nesting is)
