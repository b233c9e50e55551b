-- The normal form in one pass: each rule makes the lets, the last expression and the next made name.
use Rattle.std.specs.Prelude.{◌≡◌, ℕ, ◌+◌, ◌&&◌, false, true, if◌then◌else◌, List, [], ◌∷◌, ◌++◌}
use Rattle.lq_base_names.specs.declared.place.Place.{Place}
use Rattle.lq_text_tree.specs.declared.expr.Arguments.TheVariants.{Apart}
use Rattle.lq_text_tree.specs.Pattern.{Pattern, pattern, bind, tuple_of, build_of}
use Rattle.lq_text_tree.specs.Tree as form
use Rattle.lq_text_tree.specs.Tree.{Tree, tree, Form, Trees, no_trees, more_trees, Cases, no_cases, more_cases}
use Rattle.lq_meaning_normal_form.specs.Outcomes.Naming.{is_pure, stands, is_use, id_of, place_of, parameter, behind, matched, named_pattern, named}
use Rattle.lq_meaning_normal_form.specs.Outcomes.Flattening.{Let, let_one, let_function, put_in, flattened}

pub record Normal : Type 0 where
  pub lets : List Let
  pub last : Tree
  pub next : ℕ

pub record NormalRow : Type 0 where
  pub lets : List Let
  pub atoms : Trees
  pub next : ℕ

pub record NormalCases : Type 0 where
  pub cases : Cases
  pub next : ℕ

abbrev pub tree_of : Normal → Tree
tree_of N = put_in N.lets N.last

abbrev pub only : ℕ → Tree → Normal
only k t = record { lets = []; last = t; next = k }

-- the last expression bound to the next made name
abbrev pub with_name : ℕ → Place → Normal → Normal
with_name i p N = record { lets = N.lets ++ let_one i p (pattern p (bind N.next)) N.last ∷ []; last = tree i p (form.use_of N.next); next = N.next + 1 }

abbrev pub as_operand : Tree → Normal → Normal
as_operand t N = if stands t then N else with_name (id_of t) (place_of t) N

abbrev pub as_scrutinee : Tree → Normal → Normal
as_scrutinee t N = if is_use t then N else with_name (id_of t) (place_of t) N

-- a body under its parameter
abbrev pub body_under : ℕ → Pattern → Normal → Normal
body_under k (pattern p (tuple_of qs)) N = only N.next (matched k (pattern p (tuple_of qs)) p (tree_of N))
body_under k (pattern p (build_of c n qs)) N = only N.next (matched k (pattern p (build_of c n qs)) p (tree_of N))
body_under k (pattern p f) N = N

abbrev pub list_of_atoms : ℕ → Place → ℕ → Trees → Normal
list_of_atoms i p k no_trees = only k (tree i p (form.build 7 Apart no_trees))
list_of_atoms i p k (more_trees x xs) =
    let L = with_name i p (list_of_atoms i p k xs) in
    record { lets = L.lets; last = tree i p (form.build 8 Apart (more_trees x (more_trees L.last no_trees))); next = L.next }

abbrev mutual
  pub normal : ℕ → Tree → Normal
  normal k (tree i p f) = normal_of k i p f

  pub normal_of : ℕ → ℕ → Place → Form → Normal
  normal_of k i p (form.fun q b) =
      let B = normal (behind k q) b in only B.next (tree i p (form.fun (parameter k q) (tree_of (body_under k q B))))
  normal_of k i p (form.let_in q e b) =
      let E = normal k e in let B = normal (behind E.next q) b in let U = body_under E.next q B in
      record { lets = E.lets ++ let_one i p (parameter E.next q) E.last ∷ U.lets; last = U.last; next = B.next }
  normal_of k i p (form.let_rec f j n q b e) =
      let B = normal (behind k q) b in let E = normal B.next e in
      record { lets = let_function i p f j n (parameter k q) (tree_of (body_under k q B)) ∷ E.lets; last = E.last; next = E.next }
  normal_of k i p (form.tuple es) = let Q = all_operands k es in record { lets = Q.lets; last = tree i p (form.tuple Q.atoms); next = Q.next }
  normal_of k i p (form.build c w es) = let Q = all_operands k es in record { lets = Q.lets; last = tree i p (form.build c w Q.atoms); next = Q.next }
  normal_of k i p (form.list_of es) =
      let Q = all_items k es in let L = list_of_atoms i p Q.next Q.atoms in record { lets = Q.lets ++ L.lets; last = L.last; next = L.next }
  normal_of k i p (form.negated e) = let E = as_operand e (normal k e) in record { lets = E.lets; last = tree i p (form.negated E.last); next = E.next }
  normal_of k i p (form.not_of e) = let E = as_operand e (normal k e) in record { lets = E.lets; last = tree i p (form.not_of E.last); next = E.next }
  normal_of k i p (form.length_of e) = let E = as_operand e (normal k e) in record { lets = E.lets; last = tree i p (form.length_of E.last); next = E.next }
  normal_of k i p (form.assert e) = let E = as_operand e (normal k e) in record { lets = E.lets; last = tree i p (form.assert E.last); next = E.next }
  normal_of k i p (form.print e) = let E = as_operand e (normal k e) in record { lets = E.lets; last = tree i p (form.print E.last); next = E.next }
  normal_of k i p (form.read e) = let E = as_operand e (normal k e) in record { lets = E.lets; last = tree i p (form.read E.last); next = E.next }
  normal_of k i p (form.call a b) =
      let A = as_operand a (normal k a) in let B = as_operand b (normal A.next b) in record { lets = A.lets ++ B.lets; last = tree i p (form.call A.last B.last); next = B.next }
  normal_of k i p (form.arithmetic o a b) =
      let A = as_operand a (normal k a) in let B = as_operand b (normal A.next b) in record { lets = A.lets ++ B.lets; last = tree i p (form.arithmetic o A.last B.last); next = B.next }
  normal_of k i p (form.compare o a b) =
      let A = as_operand a (normal k a) in let B = as_operand b (normal A.next b) in record { lets = A.lets ++ B.lets; last = tree i p (form.compare o A.last B.last); next = B.next }
  normal_of k i p (form.make a b) =
      let A = as_operand a (normal k a) in let B = as_operand b (normal A.next b) in record { lets = A.lets ++ B.lets; last = tree i p (form.make A.last B.last); next = B.next }
  normal_of k i p (form.fetch a b) =
      let A = as_operand a (normal k a) in let B = as_operand b (normal A.next b) in record { lets = A.lets ++ B.lets; last = tree i p (form.fetch A.last B.last); next = B.next }
  normal_of k i p (form.and_of a b) =
      let A = as_operand a (normal k a) in let B = normal A.next b in
      if is_pure a && is_pure b then only k (tree i p (form.and_of a b)) else record { lets = A.lets; last = tree i p (form.if_else A.last (tree_of B) (tree i p (form.flag false))); next = B.next }
  normal_of k i p (form.or_of a b) =
      let A = as_operand a (normal k a) in let B = normal A.next b in
      if is_pure a && is_pure b then only k (tree i p (form.or_of a b)) else record { lets = A.lets; last = tree i p (form.if_else A.last (tree i p (form.flag true)) (tree_of B)); next = B.next }
  normal_of k i p (form.store a n e) =
      let A = as_operand a (normal k a) in let N = as_operand n (normal A.next n) in let E = as_operand e (normal N.next e) in
      record { lets = A.lets ++ (N.lets ++ E.lets); last = tree i p (form.store A.last N.last E.last); next = E.next }
  normal_of k i p (form.if_else c a b) =
      let C = as_operand c (normal k c) in let A = normal C.next a in let B = normal A.next b in
      record { lets = C.lets; last = tree i p (form.if_else C.last (tree_of A) (tree_of B)); next = B.next }
  normal_of k i p (form.match_on e cs) =
      let E = as_scrutinee e (normal k e) in let C = normal_cases E.next cs in
      record { lets = E.lets; last = tree i p (form.match_on E.last C.cases); next = C.next }
  normal_of k i p (form.chain (more_trees e es)) = rest_of_chain i p (normal k e) es
  normal_of k i p f = only k (tree i p f)

  pub all_operands : ℕ → Trees → NormalRow
  all_operands k no_trees = record { lets = []; atoms = no_trees; next = k }
  all_operands k (more_trees e es) =
      let E = as_operand e (normal k e) in let Q = all_operands E.next es in record { lets = E.lets ++ Q.lets; atoms = more_trees E.last Q.atoms; next = Q.next }

  pub all_items : ℕ → Trees → NormalRow
  all_items k no_trees = record { lets = []; atoms = no_trees; next = k }
  all_items k (more_trees e es) =
      let E = with_name (id_of e) (place_of e) (normal k e) in let Q = all_items E.next es in record { lets = E.lets ++ Q.lets; atoms = more_trees E.last Q.atoms; next = Q.next }

  pub rest_of_chain : ℕ → Place → Normal → Trees → Normal
  rest_of_chain i p E no_trees = E
  rest_of_chain i p E (more_trees e es) =
      let R = rest_of_chain i p (normal (E.next + 1) e) es in
      record { lets = E.lets ++ let_one i p (pattern p (bind E.next)) E.last ∷ R.lets; last = R.last; next = R.next }

  pub normal_cases : ℕ → Cases → NormalCases
  normal_cases k no_cases = record { cases = no_cases; next = k }
  normal_cases k (more_cases q b cs) =
      let Q = named_pattern k q in let B = normal Q.next b in let R = normal_cases B.next cs in
      record { cases = more_cases Q.pattern (tree_of B) R.cases; next = R.next }

-- one pass makes exactly what flattening makes of what naming makes
abbrev pub OnePassIsBoth : Type 0
OnePassIsBoth = (k : ℕ) (t : Tree) → tree_of (normal k t) ≡ flattened (named k t)
