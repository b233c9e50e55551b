-- The variables that are free in a tree.
use Rattle.std.specs.Prelude.{ℕ, not, nat_eq, List, [], ◌∷◌, ◌++◌, filter}
use Rattle.std.specs.List.{list_any}
use Rattle.lq_text_tree.specs.Pattern.{bound_in}
use Rattle.lq_text_tree.specs.Tree.{Tree, tree, Form, whole, flag, unit, use_of, qualified, fun, tuple, build, list_of, let_in, let_rec, call, arithmetic, negated, compare, not_of, and_of, or_of, if_else, match_on, chain, assert, assert_false, make, length_of, fetch, store, print, read, map_empty, map_add, map_find, Trees, no_trees, more_trees, Cases, no_cases, more_cases}

-- what is left of a list where some names are bound
abbrev pub without : List ℕ → List ℕ → List ℕ
without bound xs = filter (λ x. not (list_any (nat_eq x) bound)) xs

-- each name once, in the order of first appearance
abbrev pub firsts : List ℕ → List ℕ
firsts [] = []
firsts (x ∷ xs) = x ∷ without (x ∷ []) (firsts xs)

-- the free uses of variables in a tree, one after another, in the order of its text
abbrev mutual
  pub free_uses : Tree → List ℕ
  free_uses (tree i p f) = free_uses_in f

  pub free_uses_in : Form → List ℕ
  free_uses_in (whole n) = []
  free_uses_in (flag b) = []
  free_uses_in unit = []
  free_uses_in (use_of x) = x ∷ []
  free_uses_in (qualified m x) = []
  free_uses_in (fun p b) = without (bound_in p) (free_uses b)
  free_uses_in (tuple es) = free_uses_of_all es
  free_uses_in (build c w es) = free_uses_of_all es
  free_uses_in (list_of es) = free_uses_of_all es
  free_uses_in (let_in p e b) = free_uses e ++ without (bound_in p) (free_uses b)
  free_uses_in (let_rec f i p q e b) = without (f ∷ []) (without (bound_in q) (free_uses e) ++ free_uses b)
  free_uses_in (call f a) = free_uses f ++ free_uses a
  free_uses_in (arithmetic o a b) = free_uses a ++ free_uses b
  free_uses_in (negated e) = free_uses e
  free_uses_in (compare o a b) = free_uses a ++ free_uses b
  free_uses_in (not_of e) = free_uses e
  free_uses_in (and_of a b) = free_uses a ++ free_uses b
  free_uses_in (or_of a b) = free_uses a ++ free_uses b
  free_uses_in (if_else c a b) = free_uses c ++ (free_uses a ++ free_uses b)
  free_uses_in (match_on e cs) = free_uses e ++ free_uses_of_cases cs
  free_uses_in (chain es) = free_uses_of_all es
  free_uses_in (assert e) = free_uses e
  free_uses_in assert_false = []
  free_uses_in (make n e) = free_uses n ++ free_uses e
  free_uses_in (length_of a) = free_uses a
  free_uses_in (fetch a i) = free_uses a ++ free_uses i
  free_uses_in (store a i e) = free_uses a ++ (free_uses i ++ free_uses e)
  free_uses_in (print e) = free_uses e
  free_uses_in (read e) = free_uses e
  free_uses_in map_empty = []
  free_uses_in (map_add k e m) = free_uses k ++ (free_uses e ++ free_uses m)
  free_uses_in (map_find k m) = free_uses k ++ free_uses m

  pub free_uses_of_all : Trees → List ℕ
  free_uses_of_all no_trees = []
  free_uses_of_all (more_trees e es) = free_uses e ++ free_uses_of_all es

  pub free_uses_of_cases : Cases → List ℕ
  free_uses_of_cases no_cases = []
  free_uses_of_cases (more_cases p e cs) = without (bound_in p) (free_uses e) ++ free_uses_of_cases cs

-- the free names, in the order of first appearance
abbrev pub free_names : Tree → List ℕ
free_names t = firsts (free_uses t)
