-- Free names as they are found, one after another: the names that are bound, those found so far, and those found then.
use Rattle.std.specs.Prelude.{ℕ, nat_eq, List, if◌then◌else◌}
use Rattle.std.specs.List.{list_any}
use Rattle.indexmap.specs.IndexSet.{insert_key, insert_all}
use Rattle.lq_text_tree.specs.Pattern.{bound_in}
use Rattle.lq_text_tree.specs.Tree.{Tree, tree, Form, whole, flag, unit, use_of, qualified, fun, tuple, build, list_of, let_in, let_rec, call, arithmetic, negated, compare, not_of, and_of, or_of, if_else, match_on, chain, assert, assert_false, make, length_of, fetch, store, print, read, map_empty, map_add, map_find, Trees, no_trees, more_trees, Cases, no_cases, more_cases}

-- a name goes last, unless it is bound or was found
abbrev pub noted : List ℕ → List ℕ → ℕ → List ℕ
noted bound found x = if list_any (nat_eq x) bound then found else insert_key nat_eq found x

abbrev mutual
  pub found_in : List ℕ → List ℕ → Tree → List ℕ
  found_in bound found (tree i p f) = found_in_form bound found f

  pub found_in_form : List ℕ → List ℕ → Form → List ℕ
  found_in_form bound found (whole n) = found
  found_in_form bound found (flag b) = found
  found_in_form bound found unit = found
  found_in_form bound found (use_of x) = noted bound found x
  found_in_form bound found (qualified m x) = found
  found_in_form bound found (fun p b) = found_in (insert_all nat_eq bound (bound_in p)) found b
  found_in_form bound found (tuple es) = found_in_all bound found es
  found_in_form bound found (build c w es) = found_in_all bound found es
  found_in_form bound found (list_of es) = found_in_all bound found es
  found_in_form bound found (let_in p e b) =
      found_in (insert_all nat_eq bound (bound_in p)) (found_in bound found e) b
  found_in_form bound found (let_rec f i p q e b) =
      found_in (insert_key nat_eq bound f) (found_in (insert_all nat_eq (insert_key nat_eq bound f) (bound_in q)) found e) b
  found_in_form bound found (call f a) = found_in bound (found_in bound found f) a
  found_in_form bound found (arithmetic o a b) = found_in bound (found_in bound found a) b
  found_in_form bound found (negated e) = found_in bound found e
  found_in_form bound found (compare o a b) = found_in bound (found_in bound found a) b
  found_in_form bound found (not_of e) = found_in bound found e
  found_in_form bound found (and_of a b) = found_in bound (found_in bound found a) b
  found_in_form bound found (or_of a b) = found_in bound (found_in bound found a) b
  found_in_form bound found (if_else c a b) = found_in bound (found_in bound (found_in bound found c) a) b
  found_in_form bound found (match_on e cs) = found_in_cases bound (found_in bound found e) cs
  found_in_form bound found (chain es) = found_in_all bound found es
  found_in_form bound found (assert e) = found_in bound found e
  found_in_form bound found assert_false = found
  found_in_form bound found (make n e) = found_in bound (found_in bound found n) e
  found_in_form bound found (length_of a) = found_in bound found a
  found_in_form bound found (fetch a i) = found_in bound (found_in bound found a) i
  found_in_form bound found (store a i e) = found_in bound (found_in bound (found_in bound found a) i) e
  found_in_form bound found (print e) = found_in bound found e
  found_in_form bound found (read e) = found_in bound found e
  found_in_form bound found map_empty = found
  found_in_form bound found (map_add k e m) = found_in bound (found_in bound (found_in bound found k) e) m
  found_in_form bound found (map_find k m) = found_in bound (found_in bound found k) m

  pub found_in_all : List ℕ → List ℕ → Trees → List ℕ
  found_in_all bound found no_trees = found
  found_in_all bound found (more_trees e es) = found_in_all bound (found_in bound found e) es

  pub found_in_cases : List ℕ → List ℕ → Cases → List ℕ
  found_in_cases bound found no_cases = found
  found_in_cases bound found (more_cases p e cs) =
      found_in_cases bound (found_in (insert_all nat_eq bound (bound_in p)) found e) cs
