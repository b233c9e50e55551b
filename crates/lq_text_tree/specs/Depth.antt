-- How deep a tree is: the number of nodes on the longest path. The function of a recursive definition is a node of its own.
use Rattle.std.specs.Prelude.{ℕ, ◌+◌, max}
use Rattle.lq_text_tree.specs.Tree.{Tree, tree, Form, whole, flag, unit, use_of, qualified, fun, tuple, build, list_of, let_in, let_rec, call, arithmetic, negated, compare, not_of, and_of, or_of, if_else, match_on, chain, assert, assert_false, make, length_of, fetch, store, print, read, map_empty, map_add, map_find, Trees, no_trees, more_trees, Cases, no_cases, more_cases}

abbrev mutual
  pub depth_of : Tree → ℕ
  depth_of (tree i p f) = depth_below f + 1

  -- the depth of what stands below a node of this form
  pub depth_below : Form → ℕ
  depth_below (whole n) = 0
  depth_below (flag b) = 0
  depth_below unit = 0
  depth_below (use_of x) = 0
  depth_below (qualified m x) = 0
  depth_below (fun p b) = depth_of b
  depth_below (tuple es) = greatest_depth es
  depth_below (build c w es) = greatest_depth es
  depth_below (list_of es) = greatest_depth es
  depth_below (let_in p e b) = max (depth_of e) (depth_of b)
  depth_below (let_rec f i p q e b) = max (depth_of e + 1) (depth_of b)
  depth_below (call f a) = max (depth_of f) (depth_of a)
  depth_below (arithmetic o a b) = max (depth_of a) (depth_of b)
  depth_below (negated e) = depth_of e
  depth_below (compare o a b) = max (depth_of a) (depth_of b)
  depth_below (not_of e) = depth_of e
  depth_below (and_of a b) = max (depth_of a) (depth_of b)
  depth_below (or_of a b) = max (depth_of a) (depth_of b)
  depth_below (if_else c a b) = max (depth_of c) (max (depth_of a) (depth_of b))
  depth_below (match_on e cs) = max (depth_of e) (greatest_case_depth cs)
  depth_below (chain es) = greatest_depth es
  depth_below (assert e) = depth_of e
  depth_below assert_false = 0
  depth_below (make n e) = max (depth_of n) (depth_of e)
  depth_below (length_of a) = depth_of a
  depth_below (fetch a i) = max (depth_of a) (depth_of i)
  depth_below (store a i e) = max (depth_of a) (max (depth_of i) (depth_of e))
  depth_below (print e) = depth_of e
  depth_below (read e) = depth_of e
  depth_below map_empty = 0
  depth_below (map_add k e m) = max (depth_of k) (max (depth_of e) (depth_of m))
  depth_below (map_find k m) = max (depth_of k) (depth_of m)

  pub greatest_depth : Trees → ℕ
  greatest_depth no_trees = 0
  greatest_depth (more_trees e es) = max (depth_of e) (greatest_depth es)

  pub greatest_case_depth : Cases → ℕ
  greatest_case_depth no_cases = 0
  greatest_case_depth (more_cases p e cs) = max (depth_of e) (greatest_case_depth cs)
