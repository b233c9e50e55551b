-- In the normal form of a scoped program each use is in the scope of its binder.
use Rattle.std.proofs.Common.{◌≡◌, ℕ, ◌+◌, Bool, true, false, ◌&&◌, if◌then◌else◌, List, [], ◌∷◌, ◌++◌, refl, sym, subst}
use Rattle.std.proofs.lemmas.Bool.{and_from, and_parts}
use Rattle.lq_base_names.specs.declared.place.Place.{Place}
use Rattle.lq_text_tree.specs.Items.{ItemTree, ItemForm, type_of, let_of, let_rec_of}
use Rattle.lq_text_tree.specs.Pattern.{Pattern, pattern, bind, bound_in}
use Rattle.lq_text_tree.specs.Tree as form
use Rattle.lq_text_tree.specs.Tree.{Tree, tree, Form, Trees, no_trees, more_trees, Cases, no_cases, more_cases}
use Rattle.lq_text_walk.specs.Walk.Fold.{fold_all, fold_cases}
use Rattle.lq_text_walk.specs.Scoped.Uses.{is_parameter, is_apart, all_under, arms_under, scoping, is_scoped_tree, is_scoped_form, visible_behind, are_scoped}
use Rattle.lq_meaning_normal_form.specs.Outcomes.Flattening.{Let, let_one}
use Rattle.lq_meaning_normal_form.specs.Outcomes.Naming.{is_pure, stands, is_use, id_of, place_of, parameter, behind, named_pattern}
use Rattle.lq_meaning_normal_form.specs.Outcomes.OnePass.{Normal, tree_of, only, with_name, as_operand, as_scrutinee, body_under, list_of_atoms, normal, normal_of, all_operands, all_items, rest_of_chain, normal_cases}
use Rattle.lq_meaning_normal_form.specs.Types.Plain.{EachArm, IsPlain, being_plain, ItemIsPlain, ItemsArePlain}
use Rattle.lq_meaning_normal_form.specs.Types.Programs.{next_item, normal_item, normal_items}
use Rattle.lq_meaning_normal_form.specs.Types.Written.{Takes, Each}
use Rattle.lq_sound_readiness.specs.NormalScope.Laws.{NormalFormsAreScoped}
use Rattle.lq_sound_readiness.proofs.NormalScopeLemmas.Seeing.{Sub, sub-self, sub-then, sub-more, sub-under, mono}
use Rattle.lq_sound_readiness.proofs.NormalScopeLemmas.Lets.{S, Sees, after, sub-after, after-both, sees-both, IsGood, Good, tree-good, good-then, later, with-name-good, choose, pattern-sub, under-pattern, parameter-sub, parameter-takes, under-same}

-- one of two ways
either-way : (c : Bool) (N M : Normal) (vs : List ℕ) → Good vs N → Good vs M → Good vs (if c then N else M)
either-way true N M vs first second = first
either-way false N M vs first second = second

-- two, and three, operands one after another
two-good : (vs : List ℕ) (ls ms : List Let) (x y : Tree) → IsGood vs ls x → IsGood (after vs ls) ms y
    → Sees vs (ls ++ ms) × ((is_scoped_tree (after vs (ls ++ ms)) x && is_scoped_tree (after vs (ls ++ ms)) y) ≡ true)
two-good vs ls ms x y G H =
    let us = after (after vs ls) ms in
    let both = and_from (is_scoped_tree us x) (is_scoped_tree us y) (later (after vs ls) ms x G.1) H.1 in
    (sees-both vs ls ms G.0 H.0, subst (λ ws. (is_scoped_tree ws x && is_scoped_tree ws y) ≡ true) (sym (after-both vs ls ms)) both)

module _ (top : ℕ) where
  abbrev Keeps : Tree → Type 0
  Keeps t = (k : ℕ) (vs ws : List ℕ) → Sub vs ws → S vs t → IsPlain top t → Good ws (normal k t)

  abbrev KeepsOperand : Tree → Type 0
  KeepsOperand t = (k : ℕ) (vs ws : List ℕ) → Sub vs ws → S vs t → IsPlain top t → Good ws (as_operand t (normal k t))

  two-keeps : (a b : Tree) → KeepsOperand a → KeepsOperand b → (k : ℕ) (vs ws : List ℕ) → Sub vs ws → (is_scoped_tree vs a && is_scoped_tree vs b) ≡ true
      → IsPlain top a × IsPlain top b
      → let A = as_operand a (normal k a) in let B = as_operand b (normal A.next b) in
      Sees ws (A.lets ++ B.lets) × ((is_scoped_tree (after ws (A.lets ++ B.lets)) A.last && is_scoped_tree (after ws (A.lets ++ B.lets)) B.last) ≡ true)
  two-keeps a b go_a go_b k vs ws h s fine =
      let A = as_operand a (normal k a) in let B = as_operand b (normal A.next b) in
      let both = and_parts (is_scoped_tree vs a) (is_scoped_tree vs b) s in
      let us = after ws A.lets in
      two-good ws A.lets B.lets A.last B.last (go_a k vs ws h both.0 fine.0)
      (go_b A.next vs us (sub-then vs ws us h (sub-after ws A.lets)) both.1 fine.1)

  -- the first side of `&&` or `||`, and the second as a block of its own
  connected : (a b : Tree) → KeepsOperand a → Keeps b → (k : ℕ) (vs ws : List ℕ) → Sub vs ws → (is_scoped_tree vs a && is_scoped_tree vs b) ≡ true
      → IsPlain top a × IsPlain top b
      → let A = as_operand a (normal k a) in Good ws A × S (after ws A.lets) (tree_of (normal A.next b))
  connected a b go_a go_b k vs ws h s fine =
      let A = as_operand a (normal k a) in let both = and_parts (is_scoped_tree vs a) (is_scoped_tree vs b) s in let us = after ws A.lets in
      (go_a k vs ws h both.0 fine.0, tree-good us (normal A.next b) (go_b A.next vs us (sub-then vs ws us h (sub-after ws A.lets)) both.1 fine.1))

  scrutinee-keeps : (t : Tree) → Keeps t → (k : ℕ) (vs ws : List ℕ) → Sub vs ws → S vs t → IsPlain top t → Good ws (as_scrutinee t (normal k t))
  scrutinee-keeps (tree i p f) go k vs ws h s fine = choose (is_use (tree i p f)) ws i p (normal k (tree i p f)) (go k vs ws h s fine)

  -- ---- rows

  abbrev RowGood : List ℕ → List Let → Trees → Type 0
  RowGood vs ls es = Sees vs ls × (all_under (fold_all scoping es) (after vs ls) ≡ true)

  row-with : (vs : List ℕ) (ls ms : List Let) (x : Tree) (xs : Trees) → IsGood vs ls x → RowGood (after vs ls) ms xs → RowGood vs (ls ++ ms) (more_trees x xs)
  row-with vs ls ms x xs G R =
      let us = after (after vs ls) ms in
      let both = and_from (is_scoped_tree us x) (all_under (fold_all scoping xs) us) (later (after vs ls) ms x G.1) R.1 in
      (sees-both vs ls ms G.0 R.0, subst (λ ws. (is_scoped_tree ws x && all_under (fold_all scoping xs) ws) ≡ true) (sym (after-both vs ls ms)) both)

  cells-good : (vs : List ℕ) (i : ℕ) (p : Place) (k : ℕ) (xs : Trees) → all_under (fold_all scoping xs) vs ≡ true → Good vs (list_of_atoms i p k xs)
  cells-good vs i p k no_trees s = (tt, refl)
  cells-good vs i p k (more_trees x xs) s =
      let both = and_parts (is_scoped_tree vs x) (all_under (fold_all scoping xs) vs) s in
      let L = with_name i p (list_of_atoms i p k xs) in
      let G = with-name-good vs i p (list_of_atoms i p k xs) (cells-good vs i p k xs both.1) in
      let us = after vs L.lets in
      (G.0, and_from (is_scoped_tree us x) (is_scoped_tree us L.last && true) (later vs L.lets x both.0) (and_from (is_scoped_tree us L.last) true G.1 refl))

  -- ---- functions

  function-keeps : (q : Pattern) (b : Tree) (k : ℕ) → Keeps b → (vs ws : List ℕ) → Sub vs ws → S (bound_in q ++ vs) b → Takes q → IsPlain top b
      → S (bound_in (parameter k q) ++ ws) (tree_of (body_under k q (normal (behind k q) b)))
  function-keeps q b k go vs ws h s takes fine =
      let us = bound_in (parameter k q) ++ ws in let B = normal (behind k q) b in
      let G = go (behind k q) (bound_in q ++ vs) us (under-pattern q (parameter k q) vs ws (parameter-sub q k takes) h) s fine in
      subst (λ (N : Normal). S us (tree_of N)) (sym (under-same q k B takes)) (tree-good us B G)

  mutual
    keeps : (t : Tree) → Keeps t
    keeps (tree i p f) k vs ws h s fine = form-keeps f i p k vs ws h s fine

    operand : (t : Tree) → KeepsOperand t
    operand (tree i p f) k vs ws h s fine = choose (stands (tree i p f)) ws i p (normal k (tree i p f)) (form-keeps f i p k vs ws h s fine)

    form-keeps : (f : Form) (i : ℕ) (p : Place) (k : ℕ) (vs ws : List ℕ) → Sub vs ws → S vs (tree i p f) → IsPlain top (tree i p f) → Good ws (normal_of k i p f)
    form-keeps (form.whole m) i p k vs ws h s fine = (tt, refl)
    form-keeps (form.flag b) i p k vs ws h s fine = (tt, refl)
    form-keeps form.unit i p k vs ws h s fine = (tt, refl)
    form-keeps (form.use_of x) i p k vs ws h s fine = (tt, h x s)
    form-keeps (form.qualified m x) i p k vs ws h s fine = (tt, s)
    form-keeps form.assert_false i p k vs ws h s fine = (tt, refl)
    form-keeps form.map_empty i p k vs ws h s fine = (tt, refl)
    form-keeps (form.map_add a b c) i p k vs ws h s fine = (tt, mono (tree i p (form.map_add a b c)) vs ws h s)
    form-keeps (form.map_find a b) i p k vs ws h s fine = (tt, mono (tree i p (form.map_find a b)) vs ws h s)
    form-keeps (form.negated e) i p k vs ws h s fine = operand e k vs ws h s fine
    form-keeps (form.not_of e) i p k vs ws h s fine = operand e k vs ws h s fine
    form-keeps (form.length_of e) i p k vs ws h s fine = operand e k vs ws h s fine
    form-keeps (form.assert e) i p k vs ws h s fine = operand e k vs ws h s fine
    form-keeps (form.print e) i p k vs ws h s fine = operand e k vs ws h s fine
    form-keeps (form.read e) i p k vs ws h s fine = operand e k vs ws h s fine
    form-keeps (form.call a b) i p k vs ws h s fine = two-keeps a b (operand a) (operand b) k vs ws h s fine
    form-keeps (form.arithmetic o a b) i p k vs ws h s fine = two-keeps a b (operand a) (operand b) k vs ws h s fine
    form-keeps (form.compare o a b) i p k vs ws h s fine = two-keeps a b (operand a) (operand b) k vs ws h s fine
    form-keeps (form.make a b) i p k vs ws h s fine = two-keeps a b (operand a) (operand b) k vs ws h s fine
    form-keeps (form.fetch a b) i p k vs ws h s fine = two-keeps a b (operand a) (operand b) k vs ws h s fine
    form-keeps (form.and_of a b) i p k vs ws h s fine =
        let A = as_operand a (normal k a) in let B = normal A.next b in let us = after ws A.lets in
        let both = connected a b (operand a) (keeps b) k vs ws h s fine in
        either-way (is_pure a && is_pure b) (only k (tree i p (form.and_of a b)))
        (record { lets = A.lets; last = tree i p (form.if_else A.last (tree_of B) (tree i p (form.flag false))); next = B.next }) ws
        (tt, mono (tree i p (form.and_of a b)) vs ws h s)
        (both.0.0, and_from (is_scoped_tree us A.last) (is_scoped_tree us (tree_of B) && true) both.0.1 (and_from (is_scoped_tree us (tree_of B)) true both.1 refl))
    form-keeps (form.or_of a b) i p k vs ws h s fine =
        let A = as_operand a (normal k a) in let B = normal A.next b in let us = after ws A.lets in
        let both = connected a b (operand a) (keeps b) k vs ws h s fine in
        either-way (is_pure a && is_pure b) (only k (tree i p (form.or_of a b)))
        (record { lets = A.lets; last = tree i p (form.if_else A.last (tree i p (form.flag true)) (tree_of B)); next = B.next }) ws
        (tt, mono (tree i p (form.or_of a b)) vs ws h s)
        (both.0.0, and_from (is_scoped_tree us A.last) (is_scoped_tree us (tree_of B)) both.0.1 both.1)
    form-keeps (form.if_else c a b) i p k vs ws h s fine =
        let C = as_operand c (normal k c) in let A = normal C.next a in let B = normal A.next b in let us = after ws C.lets in
        let first = and_parts (is_scoped_tree vs c) (is_scoped_tree vs a && is_scoped_tree vs b) s in
        let second = and_parts (is_scoped_tree vs a) (is_scoped_tree vs b) first.1 in
        let G = operand c k vs ws h first.0 fine.0 in let g = sub-then vs ws us h (sub-after ws C.lets) in
        let X = tree-good us A (keeps a C.next vs us g second.0 fine.1) in
        let Y = tree-good us B (keeps b A.next vs us g second.1 fine.2) in (
          G.0,
          and_from (is_scoped_tree us C.last) (is_scoped_tree us (tree_of A) && is_scoped_tree us (tree_of B)) G.1
              (and_from (is_scoped_tree us (tree_of A)) (is_scoped_tree us (tree_of B)) X Y),
        )
    form-keeps (form.store a m e) i p k vs ws h s fine =
        let A = as_operand a (normal k a) in let M = as_operand m (normal A.next m) in let E = as_operand e (normal M.next e) in
        let first = and_parts (is_scoped_tree vs a) (is_scoped_tree vs m && is_scoped_tree vs e) s in
        let us = after ws A.lets in let g = sub-then vs ws us h (sub-after ws A.lets) in
        let G = operand a k vs ws h first.0 fine.0 in
        let R = two-keeps m e (operand m) (operand e) A.next vs us g first.1 (fine.1, fine.2) in
        let ms = M.lets ++ E.lets in let os = after us ms in
        let all = and_from (is_scoped_tree os A.last) (is_scoped_tree os M.last && is_scoped_tree os E.last) (later us ms A.last G.1) R.1 in (
          sees-both ws A.lets ms G.0 R.0,
          subst (λ vs. (is_scoped_tree vs A.last && (is_scoped_tree vs M.last && is_scoped_tree vs E.last)) ≡ true) (sym (after-both ws A.lets ms)) all,
        )
    form-keeps (form.tuple es) i p k vs ws h s fine = row es k vs ws h s fine.1
    form-keeps (form.build c w es) i p k vs ws h s fine =
        let both = and_parts (is_apart w) (all_under (fold_all scoping es) vs) s in let Q = all_operands k es in
        let R = row es k vs ws h both.1 fine.1 in
        (R.0, and_from (is_apart w) (all_under (fold_all scoping Q.atoms) (after ws Q.lets)) both.0 R.1)
    form-keeps (form.list_of es) i p k vs ws h s fine =
        let Q = all_items k es in let R = items es k vs ws h s fine.1 in
        let L = list_of_atoms i p Q.next Q.atoms in
        good-then ws Q.lets L.lets L.last R.0 (cells-good (after ws Q.lets) i p Q.next Q.atoms R.1)
    form-keeps (form.fun q b) i p k vs ws h s fine =
        let both = and_parts (is_parameter q) (is_scoped_tree (bound_in q ++ vs) b) s in
        let body = tree_of (body_under k q (normal (behind k q) b)) in (
          tt,
          and_from (is_parameter (parameter k q)) (is_scoped_tree (bound_in (parameter k q) ++ ws) body) (parameter-takes q k)
              (function-keeps q b k (keeps b) vs ws h both.1 fine.0 fine.2),
        )
    form-keeps (form.let_in q e b) i p k vs ws h s fine =
        let E = normal k e in let B = normal (behind E.next q) b in let r = parameter E.next q in
        let both = and_parts (is_scoped_tree vs e) (is_scoped_tree (bound_in q ++ vs) b) s in
        let G = keeps e k vs ws h both.0 fine.2 in let us = after ws E.lets in
        let g = under-pattern q r vs us (parameter-sub q E.next fine.0) (sub-then vs ws us h (sub-after ws E.lets)) in
        let H = keeps b (behind E.next q) (bound_in q ++ vs) (bound_in r ++ us) g both.1 fine.3 in
        let U = subst (λ (N : Normal). Good (bound_in r ++ us) N) (sym (under-same q E.next B fine.0)) H in
        let whole = body_under E.next q B in
        good-then ws E.lets (let_one i p r E.last ∷ whole.lets) whole.last G.0 ((G.1, U.0), U.1)
    form-keeps (form.let_rec f j m q b e) i p k vs ws h s fine =
        let B = normal (behind k q) b in let E = normal B.next e in
        let first = and_parts (is_parameter q) (is_scoped_tree (bound_in q ++ f ∷ vs) b && is_scoped_tree (f ∷ vs) e) s in
        let second = and_parts (is_scoped_tree (bound_in q ++ f ∷ vs) b) (is_scoped_tree (f ∷ vs) e) first.1 in
        let g = sub-under (f ∷ []) vs ws h in
        let body = function-keeps q b k (keeps b) (f ∷ vs) (f ∷ ws) g second.0 fine.0 fine.2 in
        let H = keeps e B.next (f ∷ vs) (f ∷ ws) g second.1 fine.3 in
        ((parameter-takes q k, body, H.0), H.1)
    form-keeps (form.match_on e cs) i p k vs ws h s fine =
        let E = as_scrutinee e (normal k e) in let both = and_parts (is_scoped_tree vs e) (arms_under (fold_cases scoping cs) vs) s in
        let G = scrutinee-keeps e (keeps e) k vs ws h both.0 fine.0 in let us = after ws E.lets in
        let C = cases cs E.next vs us (sub-then vs ws us h (sub-after ws E.lets)) both.1 fine.1 in
        (G.0, and_from (is_scoped_tree us E.last) (arms_under (fold_cases scoping (normal_cases E.next cs).cases) us) G.1 C)
    form-keeps (form.chain no_trees) i p k vs ws h s fine = absurd fine.0
    form-keeps (form.chain (more_trees e es)) i p k vs ws h s fine =
        let both = and_parts (is_scoped_tree vs e) (all_under (fold_all scoping es) vs) s in
        rest es i p (normal k e) vs ws h both.1 fine.1.1 (keeps e k vs ws h both.0 fine.1.0)

    row : (es : Trees) (k : ℕ) (vs ws : List ℕ) → Sub vs ws → all_under (fold_all scoping es) vs ≡ true → Each (fold_all (being_plain top) es)
        → RowGood ws (all_operands k es).lets (all_operands k es).atoms
    row no_trees k vs ws h s fine = (tt, refl)
    row (more_trees e es) k vs ws h s fine =
        let E = as_operand e (normal k e) in let Q = all_operands E.next es in
        let both = and_parts (is_scoped_tree vs e) (all_under (fold_all scoping es) vs) s in let us = after ws E.lets in
        row-with ws E.lets Q.lets E.last Q.atoms (operand e k vs ws h both.0 fine.0)
        (row es E.next vs us (sub-then vs ws us h (sub-after ws E.lets)) both.1 fine.1)

    items : (es : Trees) (k : ℕ) (vs ws : List ℕ) → Sub vs ws → all_under (fold_all scoping es) vs ≡ true → Each (fold_all (being_plain top) es)
        → RowGood ws (all_items k es).lets (all_items k es).atoms
    items no_trees k vs ws h s fine = (tt, refl)
    items (more_trees e es) k vs ws h s fine =
        let N = normal k e in let E = with_name (id_of e) (place_of e) N in let Q = all_items E.next es in
        let both = and_parts (is_scoped_tree vs e) (all_under (fold_all scoping es) vs) s in let us = after ws E.lets in
        row-with ws E.lets Q.lets E.last Q.atoms (with-name-good ws (id_of e) (place_of e) N (keeps e k vs ws h both.0 fine.0))
        (items es E.next vs us (sub-then vs ws us h (sub-after ws E.lets)) both.1 fine.1)

    rest : (es : Trees) (i : ℕ) (p : Place) (N : Normal) (vs ws : List ℕ) → Sub vs ws → all_under (fold_all scoping es) vs ≡ true
        → Each (fold_all (being_plain top) es) → Good ws N → Good ws (rest_of_chain i p N es)
    rest no_trees i p N vs ws h s fine G = G
    rest (more_trees e es) i p N vs ws h s fine G =
        let both = and_parts (is_scoped_tree vs e) (all_under (fold_all scoping es) vs) s in
        let us = N.next ∷ after ws N.lets in let k = N.next + 1 in
        let g = sub-then vs ws us h (sub-then ws (after ws N.lets) us (sub-after ws N.lets) (sub-more (N.next ∷ []) (after ws N.lets) (after ws N.lets) (sub-self (after ws N.lets)))) in
        let R = rest_of_chain i p (normal k e) es in
        let H = rest es i p (normal k e) vs us g both.1 fine.1 (keeps e k vs us g both.0 fine.0) in
        good-then ws N.lets (let_one i p (pattern p (bind N.next)) N.last ∷ R.lets) R.last G.0 ((G.1, H.0), H.1)

    cases : (cs : Cases) (k : ℕ) (vs ws : List ℕ) → Sub vs ws → arms_under (fold_cases scoping cs) vs ≡ true → EachArm top (fold_cases (being_plain top) cs)
        → arms_under (fold_cases scoping (normal_cases k cs).cases) ws ≡ true
    cases no_cases k vs ws h s fine = refl
    cases (more_cases q b cs) k vs ws h s fine =
        let r = named_pattern k q in let B = normal r.next b in let us = bound_in r.pattern ++ ws in
        let both = and_parts (is_scoped_tree (bound_in q ++ vs) b) (arms_under (fold_cases scoping cs) vs) s in
        let X = tree-good us B (keeps b r.next (bound_in q ++ vs) us (under-pattern q r.pattern vs ws (pattern-sub q k) h) both.0 fine.1) in
        and_from (is_scoped_tree us (tree_of B)) (arms_under (fold_cases scoping (normal_cases B.next cs).cases) ws) X (cases cs B.next vs ws h both.1 fine.2)

  -- ---- programs

  item-scoped : (f : ItemForm) (k : ℕ) (vs ws : List ℕ) → Sub vs ws → is_scoped_form vs f ≡ true → ItemIsPlain top f
      → (is_scoped_form ws (normal_item k f) ≡ true) × Sub (visible_behind vs f) (visible_behind ws (normal_item k f))
  item-scoped (type_of d) k vs ws h s fine = cc
  item-scoped (let_of q e) k vs ws h s fine =
      let both = and_parts (is_parameter q) (is_scoped_tree vs e) s in (
        and_from (is_parameter q) (is_scoped_tree ws (tree_of (normal k e))) both.0 (tree-good ws (normal k e) (keeps e k vs ws h both.1 fine.1)),
        sub-under (bound_in q) vs ws h,
      )
  item-scoped (let_rec_of f r) k vs ws h s fine =
      let q = r.parameter in let both = and_parts (is_parameter q) (is_scoped_tree (bound_in q ++ f ∷ vs) r.body) s in
      let g = sub-under (f ∷ []) vs ws h in let body = tree_of (body_under k q (normal (behind k q) r.body)) in (
        and_from (is_parameter (parameter k q)) (is_scoped_tree (bound_in (parameter k q) ++ f ∷ ws) body) (parameter-takes q k)
            (function-keeps q r.body k (keeps r.body) (f ∷ vs) (f ∷ ws) g both.1 fine.0 fine.2),
        g,
      )

  items-scoped : (is : List ItemTree) (k : ℕ) (vs ws : List ℕ) → Sub vs ws → are_scoped vs is ≡ true → ItemsArePlain top is → are_scoped ws (normal_items k is) ≡ true
  items-scoped [] k vs ws h s fine = refl
  items-scoped (i ∷ is) k vs ws h s fine =
      let both = and_parts (is_scoped_form vs i.form) (are_scoped (visible_behind vs i.form) is) s in
      let one = item-scoped i.form k vs ws h both.0 fine.0 in
      let us = visible_behind ws (normal_item k i.form) in
      and_from (is_scoped_form ws (normal_item k i.form)) (are_scoped us (normal_items (next_item k i.form) is)) one.0
      (items-scoped is (next_item k i.form) (visible_behind vs i.form) us one.1 both.1 fine.1)

pub are-scoped-still : NormalFormsAreScoped
are-scoped-still k is fine s = items-scoped k is k [] [] (sub-self []) s fine
