-- The normal form of a tree each of whose matches has an arm is one.
use Rattle.std.proofs.Common.{ℕ, ◌+◌, ◌&&◌, Bool, true, false, if◌then◌else◌, List, [], ◌∷◌, ◌++◌, length, sym, subst}
use Rattle.lq_types_infer.specs.Annotation.Whole.{program_of}
use Rattle.lq_base_names.specs.declared.place.Place.{Place}
use Rattle.lq_meaning_normal_form.specs.Outcomes.Flattening.{Let, let_one, let_function, put_in}
use Rattle.lq_meaning_normal_form.specs.Outcomes.Naming.{is_pure, stands, is_use, id_of, place_of, parameter, behind, named_pattern}
use Rattle.lq_meaning_normal_form.specs.Outcomes.OnePass.{Normal, tree_of, only, with_name, as_operand, as_scrutinee, body_under, list_of_atoms, normal, normal_of, all_operands, all_items, rest_of_chain, normal_cases}
use Rattle.lq_meaning_normal_form.specs.Types.Programs.{next_item, normal_item, normal_items}
use Rattle.lq_meaning_normal_form.specs.Types.Written.{Each, EachBody}
use Rattle.lq_meaning_normalize.specs.Normalize.Laws.{ProgramsAreOnePass}
use Rattle.lq_text_walk.specs.Scoped.Scoping.{Scoping}
use Rattle.lq_text_tree.specs.Items.{ItemTree, ItemForm, type_of, let_of, let_rec_of}
use Rattle.lq_text_tree.specs.Pattern.{Pattern, pattern, any, bind, nothing, tuple_of, build_of}
use Rattle.lq_text_tree.specs.Tree as form
use Rattle.lq_text_tree.specs.Tree.{Tree, tree, Form, Trees, no_trees, more_trees, Cases, no_cases, more_cases}
use Rattle.lq_text_walk.specs.Walk.Fold.{fold_all, fold_cases}
use Rattle.lq_sound_scope.specs.Values.Arms.{SomeArms, arming, HasArms, ItemHasArms, HaveArms}
use Rattle.lq_sound_scope.specs.Values.Laws.{NormalFormsHaveArms, TextsHaveArms, TypedTextsHaveArms}

-- ---- lets one after another

abbrev LetHasArms : Let → Type 0
LetHasArms (let_one i p q e) = HasArms e
LetHasArms (let_function i p f j m q b) = HasArms b

abbrev LetsHaveArms : List Let → Type 0
LetsHaveArms [] = Unit {0}
LetsHaveArms (l ∷ ls) = LetHasArms l × LetsHaveArms ls

lets_both : (ls ms : List Let) → LetsHaveArms ls → LetsHaveArms ms → LetsHaveArms (ls ++ ms)
lets_both [] ms h k = k
lets_both (l ∷ ls) ms h k = (h.0, lets_both ls ms h.1 k)

put_armed : (ls : List Let) (t : Tree) → LetsHaveArms ls → HasArms t → HasArms (put_in ls t)
put_armed [] t h k = k
put_armed (let_one i p q e ∷ ls) t h k = (h.0, put_armed ls t h.1 k)
put_armed (let_function i p f j m q b ∷ ls) t h k = (h.0, put_armed ls t h.1 k)

abbrev Good : Normal → Type 0
Good N = LetsHaveArms N.lets × HasArms N.last

tree_armed : (N : Normal) → Good N → HasArms (tree_of N)
tree_armed N h = put_armed N.lets N.last h.0 h.1

with_name_armed : (i : ℕ) (p : Place) (N : Normal) → Good N → Good (with_name i p N)
with_name_armed i p N G = (lets_both N.lets (let_one i p (pattern p (bind N.next)) N.last ∷ []) G.0 (G.1, tt), tt)

choose : (s : Bool) (i : ℕ) (p : Place) (N : Normal) → Good N → Good (if s then N else with_name i p N)
choose true i p N G = G
choose false i p N G = with_name_armed i p N G

either_way : (c : Bool) (N M : Normal) → Good N → Good M → Good (if c then N else M)
either_way true N M first second = first
either_way false N M first second = second

under_armed : (q : Pattern) (k : ℕ) (N : Normal) → Good N → Good (body_under k q N)
under_armed (pattern p any) k N G = G
under_armed (pattern p (bind x)) k N G = G
under_armed (pattern p nothing) k N G = G
under_armed (pattern p (tuple_of qs)) k N G = (tt, (tt, (tree_armed N G, tt)))
under_armed (pattern p (build_of c o qs)) k N G = (tt, (tt, (tree_armed N G, tt)))

cells_armed : (i : ℕ) (p : Place) (k : ℕ) (xs : Trees) → Each (fold_all arming xs) → Good (list_of_atoms i p k xs)
cells_armed i p k no_trees h = (tt, tt)
cells_armed i p k (more_trees x xs) h =
    let W = with_name_armed i p (list_of_atoms i p k xs) (cells_armed i p k xs h.1) in (W.0, (h.0, (W.1, tt)))

abbrev RowGood : List Let → Trees → Type 0
RowGood ls es = LetsHaveArms ls × Each (fold_all arming es)

-- ---- trees

abbrev Keeps : Tree → Type 0
Keeps t = (k : ℕ) → HasArms t → Good (normal k t)

abbrev KeepsOperand : Tree → Type 0
KeepsOperand t = (k : ℕ) → HasArms t → Good (as_operand t (normal k t))

function_keeps : (q : Pattern) (b : Tree) (k : ℕ) → Keeps b → HasArms b → HasArms (tree_of (body_under k q (normal (behind k q) b)))
function_keeps q b k keeps h =
    let N = normal (behind k q) b in tree_armed (body_under k q N) (under_armed q k N (keeps (behind k q) h))

two_keep : (a b : Tree) → KeepsOperand a → KeepsOperand b → (k : ℕ) → HasArms a × HasArms b
    → let A = as_operand a (normal k a) in let B = as_operand b (normal A.next b) in LetsHaveArms (A.lets ++ B.lets) × (HasArms A.last × HasArms B.last)
two_keep a b go_a go_b k h =
    let A = as_operand a (normal k a) in let B = as_operand b (normal A.next b) in
    let X = go_a k h.0 in let Y = go_b A.next h.1 in (lets_both A.lets B.lets X.0 Y.0, (X.1, Y.1))

mutual
  keeps : (t : Tree) → Keeps t
  keeps (tree i p f) k h = form_keeps f i p k h

  operand : (t : Tree) → KeepsOperand t
  operand (tree i p f) k h = choose (stands (tree i p f)) i p (normal k (tree i p f)) (form_keeps f i p k h)

  scrutinee : (t : Tree) (k : ℕ) → HasArms t → Good (as_scrutinee t (normal k t))
  scrutinee (tree i p f) k h = choose (is_use (tree i p f)) i p (normal k (tree i p f)) (form_keeps f i p k h)

  form_keeps : (f : Form) (i : ℕ) (p : Place) (k : ℕ) → HasArms (tree i p f) → Good (normal_of k i p f)
  form_keeps (form.whole z) i p k h = (tt, h)
  form_keeps (form.flag b) i p k h = (tt, h)
  form_keeps form.unit i p k h = (tt, h)
  form_keeps (form.use_of x) i p k h = (tt, h)
  form_keeps (form.qualified o x) i p k h = (tt, h)
  form_keeps form.assert_false i p k h = (tt, h)
  form_keeps form.map_empty i p k h = (tt, h)
  form_keeps (form.map_add a b c) i p k h = (tt, h)
  form_keeps (form.map_find a b) i p k h = (tt, h)
  form_keeps (form.negated e) i p k h = operand e k h
  form_keeps (form.not_of e) i p k h = operand e k h
  form_keeps (form.length_of e) i p k h = operand e k h
  form_keeps (form.assert e) i p k h = operand e k h
  form_keeps (form.print e) i p k h = operand e k h
  form_keeps (form.read e) i p k h = operand e k h
  form_keeps (form.call a b) i p k h = two_keep a b (operand a) (operand b) k h
  form_keeps (form.arithmetic o a b) i p k h = two_keep a b (operand a) (operand b) k h
  form_keeps (form.compare o a b) i p k h = two_keep a b (operand a) (operand b) k h
  form_keeps (form.make a b) i p k h = two_keep a b (operand a) (operand b) k h
  form_keeps (form.fetch a b) i p k h = two_keep a b (operand a) (operand b) k h
  form_keeps (form.and_of a b) i p k h =
      let A = as_operand a (normal k a) in let B = normal A.next b in let X = operand a k h.0 in
      either_way (is_pure a && is_pure b) (only k (tree i p (form.and_of a b)))
      (record { lets = A.lets; last = tree i p (form.if_else A.last (tree_of B) (tree i p (form.flag false))); next = B.next })
      (tt, h) (X.0, (X.1, tree_armed B (keeps b A.next h.1), tt))
  form_keeps (form.or_of a b) i p k h =
      let A = as_operand a (normal k a) in let B = normal A.next b in let X = operand a k h.0 in
      either_way (is_pure a && is_pure b) (only k (tree i p (form.or_of a b)))
      (record { lets = A.lets; last = tree i p (form.if_else A.last (tree i p (form.flag true)) (tree_of B)); next = B.next })
      (tt, h) (X.0, (X.1, tt, tree_armed B (keeps b A.next h.1)))
  form_keeps (form.if_else c a b) i p k h =
      let C = as_operand c (normal k c) in let A = normal C.next a in let B = normal A.next b in let X = operand c k h.0 in
      (X.0, (X.1, tree_armed A (keeps a C.next h.1), tree_armed B (keeps b A.next h.2)))
  form_keeps (form.store a o e) i p k h =
      let A = as_operand a (normal k a) in let O = as_operand o (normal A.next o) in let E = as_operand e (normal O.next e) in
      let X = operand a k h.0 in let Y = two_keep o e (operand o) (operand e) A.next (h.1, h.2) in
      (lets_both A.lets (O.lets ++ E.lets) X.0 Y.0, (X.1, Y.1.0, Y.1.1))
  form_keeps (form.tuple es) i p k h = row es k h
  form_keeps (form.build c w es) i p k h = row es k h
  form_keeps (form.list_of es) i p k h =
      let Q = all_items k es in let L = list_of_atoms i p Q.next Q.atoms in
      let R = items es k h in let C = cells_armed i p Q.next Q.atoms R.1 in
      (lets_both Q.lets L.lets R.0 C.0, C.1)
  form_keeps (form.fun q b) i p k h = (tt, function_keeps q b k (keeps b) h)
  form_keeps (form.let_in q e b) i p k h =
      let E = normal k e in let B = normal (behind E.next q) b in let whole = body_under E.next q B in
      let X = keeps e k h.0 in let U = under_armed q E.next B (keeps b (behind E.next q) h.1) in
      (lets_both E.lets (let_one i p (parameter E.next q) E.last ∷ whole.lets) X.0 (X.1, U.0), U.1)
  form_keeps (form.let_rec f j o q b e) i p k h =
      let X = keeps e (normal (behind k q) b).next h.1 in ((function_keeps q b k (keeps b) h.0, X.0), X.1)
  form_keeps (form.match_on e cs) i p k h =
      let X = scrutinee e k h.0 in (X.0, (X.1, some_cases cs (as_scrutinee e (normal k e)).next h.1))
  form_keeps (form.chain no_trees) i p k h = (tt, h)
  form_keeps (form.chain (more_trees e es)) i p k h = rest es i p (normal k e) h.1 (keeps e k h.0)

  row : (es : Trees) (k : ℕ) → Each (fold_all arming es) → RowGood (all_operands k es).lets (all_operands k es).atoms
  row no_trees k h = (tt, tt)
  row (more_trees e es) k h =
      let E = as_operand e (normal k e) in let X = operand e k h.0 in let R = row es E.next h.1 in
      (lets_both E.lets (all_operands E.next es).lets X.0 R.0, (X.1, R.1))

  items : (es : Trees) (k : ℕ) → Each (fold_all arming es) → RowGood (all_items k es).lets (all_items k es).atoms
  items no_trees k h = (tt, tt)
  items (more_trees e es) k h =
      let N = normal k e in let E = with_name (id_of e) (place_of e) N in
      let X = with_name_armed (id_of e) (place_of e) N (keeps e k h.0) in let R = items es E.next h.1 in
      (lets_both E.lets (all_items E.next es).lets X.0 R.0, (X.1, R.1))

  -- what is left of a chain behind a part
  rest : (es : Trees) (i : ℕ) (p : Place) (N : Normal) → Each (fold_all arming es) → Good N → Good (rest_of_chain i p N es)
  rest no_trees i p N h G = G
  rest (more_trees e es) i p N h G =
      let E = normal (N.next + 1) e in let R = rest es i p E h.1 (keeps e (N.next + 1) h.0) in
      (lets_both N.lets (let_one i p (pattern p (bind N.next)) N.last ∷ (rest_of_chain i p E es).lets) G.0 (G.1, R.0), R.1)

  cases : (cs : Cases) (k : ℕ) → EachBody (fold_cases arming cs) → EachBody (fold_cases arming (normal_cases k cs).cases)
  cases no_cases k h = tt
  cases (more_cases q b cs) k h =
      let j = (named_pattern k q).next in let B = normal j b in (tree_armed B (keeps b j h.0), cases cs B.next h.1)

  some_cases : (cs : Cases) (k : ℕ) → SomeArms (fold_cases arming cs) → SomeArms (fold_cases arming (normal_cases k cs).cases)
  some_cases no_cases k h = absurd h
  some_cases (more_cases q b cs) k h =
      let j = (named_pattern k q).next in let B = normal j b in (tree_armed B (keeps b j h.0), cases cs B.next h.1)

-- ---- programs

item_keeps : (f : ItemForm) (k : ℕ) → ItemHasArms f → ItemHasArms (normal_item k f)
item_keeps (type_of d) k h = tt
item_keeps (let_of q e) k h = tree_armed (normal k e) (keeps e k h)
item_keeps (let_rec_of f r) k h = function_keeps r.parameter r.body k (keeps r.body) h

items_keep : (is : List ItemTree) (k : ℕ) → HaveArms is → HaveArms (normal_items k is)
items_keep [] k h = tt
items_keep (i ∷ is) k h = (item_keeps i.form k h.0, items_keep is (next_item k i.form) h.1)

pub forms_armed : ProgramsAreOnePass → NormalFormsHaveArms
forms_armed one k is h = subst HaveArms (sym (one k is)) (items_keep is k h)

pub typed_armed : TextsHaveArms → NormalFormsHaveArms → TypedTextsHaveArms
typed_armed texts normal i n t knows =
    let s = program_of i.annotated in
    normal (length s.sources) s.items
    (subst (λ (r : Scoping). HaveArms r.items) (sym t.bound) (texts t.text t.names t.tokens t.trees t.read t.known))
