-- A normal form makes no more names than the tree's weight.
use Rattle.std.proofs.Common.{◌≡◌, ◌≤◌, ℕ, ◌+◌, Bool, true, false, ◌&&◌, if◌then◌else◌, List, [], ◌∷◌, arith}
use Rattle.lq_base_names.specs.declared.place.Place.{Place}
use Rattle.lq_text_tree.specs.Items.{ItemTree, ItemForm, type_of, let_of, let_rec_of}
use Rattle.lq_text_tree.specs.Pattern.{Pattern, pattern, PatternForm, any, bind, nothing, tuple_of, build_of, Patterns, no_patterns, more_patterns}
use Rattle.lq_text_tree.specs.Tree as form
use Rattle.lq_text_tree.specs.Tree.{Tree, tree, Form, Trees, no_trees, more_trees, Cases, no_cases, more_cases}
use Rattle.lq_meaning_normal_form.specs.Outcomes.Naming.{is_pure, stands, is_use, id_of, place_of, behind, named_part, named_form, named_parts, named_pattern}
use Rattle.lq_meaning_normal_form.specs.Outcomes.OnePass.{Normal, tree_of, only, with_name, as_operand, as_scrutinee, list_of_atoms, normal, normal_of, all_operands, all_items, rest_of_chain, normal_cases}
use Rattle.lq_meaning_normal_form.specs.Types.Programs.{next_item, next_items}
use Rattle.lq_sound_scope.proofs.NameCountsLemmas.Weights.{blanks, blanks_form, blanks_all, weight, weight_all, weight_cases, weight_form, weight_items}

-- ---- patterns

mutual
  part-next : (q : Pattern) (k : ℕ) → (named_part k q).next ≡ k + blanks q
  part-next (pattern p f) k = form-next f k

  form-next : (f : PatternForm) (k : ℕ) → (named_form k f).next ≡ k + blanks_form f
  form-next any k = omega arith
  form-next (bind x) k = omega arith
  form-next nothing k = omega arith
  form-next (tuple_of qs) k = parts-next qs k
  form-next (build_of c o qs) k = parts-next qs k

  parts-next : (qs : Patterns) (k : ℕ) → (named_parts k qs).next ≡ k + blanks_all qs
  parts-next no_patterns k = omega arith
  parts-next (more_patterns q qs) k =
      let j = (named_part k q).next in let first = part-next q k in let rest = parts-next qs j in omega (arith, first, rest)

pattern-next : (q : Pattern) (k : ℕ) → (named_pattern k q).next ≤ k + blanks q
pattern-next (pattern p any) k = omega arith
pattern-next (pattern p (bind x)) k = omega arith
pattern-next (pattern p nothing) k = omega arith
pattern-next (pattern p (tuple_of qs)) k = let all = parts-next qs k in omega (arith, all)
pattern-next (pattern p (build_of c o qs)) k = let all = parts-next qs k in omega (arith, all)

behind-next : (q : Pattern) (k : ℕ) → behind k q ≤ k + (1 + blanks q)
behind-next (pattern p any) k = omega arith
behind-next (pattern p (bind x)) k = omega arith
behind-next (pattern p nothing) k = omega arith
behind-next (pattern p (tuple_of qs)) k = let all = parts-next qs (k + 1) in omega (arith, all)
behind-next (pattern p (build_of c o qs)) k = let all = parts-next qs (k + 1) in omega (arith, all)

-- ---- made names

choose-next : (s : Bool) (i : ℕ) (p : Place) (N : Normal) → (if s then N else with_name i p N).next ≤ N.next + 1
choose-next true i p N = omega arith
choose-next false i p N = omega arith

either-next : (c : Bool) (N M : Normal) (m : ℕ) → N.next + 2 ≤ m → M.next + 2 ≤ m → (if c then N else M).next + 2 ≤ m
either-next true N M m first second = first
either-next false N M m first second = second

abbrev count : Trees → ℕ
count no_trees = 0
count (more_trees e es) = 1 + count es

cells-next : (i : ℕ) (p : Place) (k : ℕ) (xs : Trees) → (list_of_atoms i p k xs).next ≡ k + count xs
cells-next i p k no_trees = omega arith
cells-next i p k (more_trees x xs) = let more = cells-next i p k xs in omega (arith, more)

-- ---- trees

abbrev Bounded : Tree → Type 0
Bounded t = (k : ℕ) → (normal k t).next + 2 ≤ k + weight t

abbrev OperandBounded : Tree → Type 0
OperandBounded t = (k : ℕ) → (as_operand t (normal k t)).next + 1 ≤ k + weight t

scrutinee-bounded : (t : Tree) → Bounded t → (k : ℕ) → (as_scrutinee t (normal k t)).next + 1 ≤ k + weight t
scrutinee-bounded t go k =
    let N = normal k t in let own = go k in let name = choose-next (is_use t) (id_of t) (place_of t) N in omega (arith, own, name)

two-bounded : (a b : Tree) → OperandBounded a → OperandBounded b → (k : ℕ)
    → let A = as_operand a (normal k a) in let B = as_operand b (normal A.next b) in B.next + 2 ≤ k + (2 + (weight a + weight b))
two-bounded a b go_a go_b k =
    let A = as_operand a (normal k a) in let first = go_a k in let second = go_b A.next in omega (arith, first, second)

connected-bounded : (a b : Tree) → OperandBounded a → Bounded b → (k : ℕ)
    → let A = as_operand a (normal k a) in (normal A.next b).next + 2 ≤ k + (2 + (weight a + weight b))
connected-bounded a b go_a go_b k =
    let A = as_operand a (normal k a) in let first = go_a k in let second = go_b A.next in omega (arith, first, second)

mutual
  bounded : (t : Tree) → Bounded t
  bounded (tree i p f) k = form-bounded f i p k

  operand-bounded : (t : Tree) → OperandBounded t
  operand-bounded (tree i p f) k =
      let t = tree i p f in let N = normal_of k i p f in
      let own = form-bounded f i p k in let name = choose-next (stands t) i p N in omega (arith, own, name)

  form-bounded : (f : Form) (i : ℕ) (p : Place) (k : ℕ) → (normal_of k i p f).next + 2 ≤ k + weight (tree i p f)
  form-bounded (form.whole m) i p k = omega arith
  form-bounded (form.flag b) i p k = omega arith
  form-bounded form.unit i p k = omega arith
  form-bounded (form.use_of y) i p k = omega arith
  form-bounded (form.qualified m y) i p k = omega arith
  form-bounded form.assert_false i p k = omega arith
  form-bounded form.map_empty i p k = omega arith
  form-bounded (form.map_add a b c) i p k = omega arith
  form-bounded (form.map_find a b) i p k = omega arith
  form-bounded (form.negated e) i p k = let own = operand-bounded e k in omega (arith, own)
  form-bounded (form.not_of e) i p k = let own = operand-bounded e k in omega (arith, own)
  form-bounded (form.length_of e) i p k = let own = operand-bounded e k in omega (arith, own)
  form-bounded (form.assert e) i p k = let own = operand-bounded e k in omega (arith, own)
  form-bounded (form.print e) i p k = let own = operand-bounded e k in omega (arith, own)
  form-bounded (form.read e) i p k = let own = operand-bounded e k in omega (arith, own)
  form-bounded (form.call a b) i p k = two-bounded a b (operand-bounded a) (operand-bounded b) k
  form-bounded (form.arithmetic o a b) i p k = two-bounded a b (operand-bounded a) (operand-bounded b) k
  form-bounded (form.compare o a b) i p k = two-bounded a b (operand-bounded a) (operand-bounded b) k
  form-bounded (form.make a b) i p k = two-bounded a b (operand-bounded a) (operand-bounded b) k
  form-bounded (form.fetch a b) i p k = two-bounded a b (operand-bounded a) (operand-bounded b) k
  form-bounded (form.and_of a b) i p k =
      let A = as_operand a (normal k a) in let B = normal A.next b in
      either-next (is_pure a && is_pure b) (only k (tree i p (form.and_of a b)))
      (record { lets = A.lets; last = tree i p (form.if_else A.last (tree_of B) (tree i p (form.flag false))); next = B.next })
      (k + (2 + (weight a + weight b))) (omega arith) (connected-bounded a b (operand-bounded a) (bounded b) k)
  form-bounded (form.or_of a b) i p k =
      let A = as_operand a (normal k a) in let B = normal A.next b in
      either-next (is_pure a && is_pure b) (only k (tree i p (form.or_of a b)))
      (record { lets = A.lets; last = tree i p (form.if_else A.last (tree i p (form.flag true)) (tree_of B)); next = B.next })
      (k + (2 + (weight a + weight b))) (omega arith) (connected-bounded a b (operand-bounded a) (bounded b) k)
  form-bounded (form.if_else c a b) i p k =
      let C = as_operand c (normal k c) in let A = normal C.next a in
      let first = operand-bounded c k in let second = bounded a C.next in let third = bounded b A.next in
      omega (arith, first, second, third)
  form-bounded (form.store a m e) i p k =
      let A = as_operand a (normal k a) in let M = as_operand m (normal A.next m) in
      let first = operand-bounded a k in let second = operand-bounded m A.next in let third = operand-bounded e M.next in
      omega (arith, first, second, third)
  form-bounded (form.tuple es) i p k = let all = row-bounded es k in omega (arith, all)
  form-bounded (form.build c w es) i p k = let all = row-bounded es k in omega (arith, all)
  form-bounded (form.list_of es) i p k =
      let Q = all_items k es in let all = items-bounded es k in let cells = cells-next i p Q.next Q.atoms in omega (arith, all, cells)
  form-bounded (form.fun q b) i p k =
      let first = behind-next q k in let second = bounded b (behind k q) in omega (arith, first, second)
  form-bounded (form.let_in q e b) i p k =
      let E = normal k e in
      let first = bounded e k in let second = behind-next q E.next in let third = bounded b (behind E.next q) in
      omega (arith, first, second, third)
  form-bounded (form.let_rec f h m q b e) i p k =
      let B = normal (behind k q) b in
      let first = behind-next q k in let second = bounded b (behind k q) in let third = bounded e B.next in
      omega (arith, first, second, third)
  form-bounded (form.match_on e cs) i p k =
      let E = as_scrutinee e (normal k e) in
      let first = scrutinee-bounded e (bounded e) k in let second = cases-bounded cs E.next in omega (arith, first, second)
  form-bounded (form.chain no_trees) i p k = omega arith
  form-bounded (form.chain (more_trees e es)) i p k =
      let E = normal k e in let first = bounded e k in let second = rest-bounded es i p E in omega (arith, first, second)

  row-bounded : (es : Trees) (k : ℕ) → (all_operands k es).next ≤ k + weight_all es
  row-bounded no_trees k = omega arith
  row-bounded (more_trees e es) k =
      let E = as_operand e (normal k e) in let first = operand-bounded e k in let rest = row-bounded es E.next in omega (arith, first, rest)

  -- each item has a name and a cell
  items-bounded : (es : Trees) (k : ℕ) → (all_items k es).next + count (all_items k es).atoms ≤ k + weight_all es
  items-bounded no_trees k = omega arith
  items-bounded (more_trees e es) k =
      let N = normal k e in let first = bounded e k in let rest = items-bounded es (N.next + 1) in omega (arith, first, rest)

  rest-bounded : (es : Trees) (i : ℕ) (p : Place) (N : Normal) → (rest_of_chain i p N es).next ≤ N.next + weight_all es
  rest-bounded no_trees i p N = omega arith
  rest-bounded (more_trees e es) i p N =
      let T = normal (N.next + 1) e in let first = bounded e (N.next + 1) in let rest = rest-bounded es i p T in omega (arith, first, rest)

  cases-bounded : (cs : Cases) (k : ℕ) → (normal_cases k cs).next ≤ k + weight_cases cs
  cases-bounded no_cases k = omega arith
  cases-bounded (more_cases q b cs) k =
      let j = (named_pattern k q).next in let B = normal j b in
      let first = pattern-next q k in let second = bounded b j in let rest = cases-bounded cs B.next in omega (arith, first, second, rest)

-- ---- programs

item-bounded : (f : ItemForm) (k : ℕ) → next_item k f ≤ k + weight_form f
item-bounded (type_of d) k = omega arith
item-bounded (let_of q e) k = let own = bounded e k in omega (arith, own)
item-bounded (let_rec_of f r) k =
    let first = behind-next r.parameter k in let second = bounded r.body (behind k r.parameter) in omega (arith, first, second)

pub items-few : (is : List ItemTree) (k : ℕ) → next_items k is ≤ k + weight_items is
items-few [] k = omega arith
items-few (i ∷ is) k = let first = item-bounded i.form k in let rest = items-few is (next_item k i.form) in omega (arith, first, rest)
