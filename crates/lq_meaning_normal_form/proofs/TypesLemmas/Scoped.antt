-- Scoped programs are plain: their binders are below the number of binders, and parameters are names, `_` or `()`.
use Rattle.std.proofs.Common.{◌≡◌, ℕ, zero, suc, ◌+◌, ◌≤◌, Bool, true, false, ◌&&◌, List, [], ◌∷◌, ◌++◌, length, sym, subst, arith}
use Rattle.std.proofs.lemmas.Bool.{and_parts}
use Rattle.lq_base_names.specs.declared.place.Place.{Place}
use Rattle.lq_text_tree.specs.Items.{ItemTree, ItemForm, type_of, let_of, let_rec_of}
use Rattle.lq_text_tree.specs.Pattern.{Pattern, bound_in}
use Rattle.lq_text_tree.specs.Tree as form
use Rattle.lq_text_tree.specs.Tree.{Tree, tree, Form, Trees, no_trees, more_trees, Cases, no_cases, more_cases}
use Rattle.lq_text_walk.specs.Walk.Fold.{Arm, fold_all, fold_cases}
use Rattle.lq_text_walk.specs.Walk.Shape as shape
use Rattle.lq_text_walk.specs.Walk.Visits.{Visit, leave, leave_item, leave_function, declare, show, hide, hide_name, is_let, function_of, in_row, under, in_arms, arms_behind, in_match, in_function, around, visiting, visits_of, visits_of_form, visits_of_item, visits_of_items}
use Rattle.lq_text_walk.specs.Scoped.Numbers.{binders_at, binders_in, from_on}
use Rattle.lq_text_walk.specs.Scoped.Uses.{is_parameter, is_scoped_row, all_under, arms_under, scoping, is_scoped_tree, is_scoped_form, visible_behind, are_scoped}
use Rattle.lq_meaning_normal_form.specs.Types.Laws.{ScopedProgramsArePlain}
use Rattle.lq_meaning_normal_form.specs.Types.Plain.{AreBelow, EachArm, IsPlain, being_plain, ItemIsPlain, ItemsArePlain}
use Rattle.lq_meaning_normal_form.specs.Types.Written.{HasPart, Takes, Each, EachBody, IsWritten, being_written, ItemIsWritten, ItemsAreWritten}
use Rattle.lq_meaning_normal_form.proofs.TypesLemmas.Patterns.{below-both}

below-join : (b : ℕ) (xs ys : List ℕ) → AreBelow b xs → AreBelow b ys → AreBelow b (xs ++ ys)
below-join b [] ys h k = k
below-join b (x ∷ xs) ys h k = (h.0, below-join b xs ys h.1 k)

-- the numbers from one on are below their end
from-below : (n m b : ℕ) → n + m ≤ b → AreBelow b (from_on n m)
from-below n zero b h = tt
from-below n (suc m) b h = (omega (arith, h), from-below (suc n) m b (omega (arith, h)))

module _ (top : ℕ) where
  abbrev Low : List Visit → Type 0
  Low vs = AreBelow top (binders_in vs)

  low-both : (vs ws : List Visit) → Low (vs ++ ws) → Low vs × Low ws
  low-both [] ws h = (tt, h)
  low-both (v ∷ vs) ws h =
      let first = below-both top (binders_at v) (binders_in (vs ++ ws)) h in let rest = low-both vs ws first.1 in
      (below-join top (binders_at v) (binders_in vs) first.0 rest.0, rest.1)

  low-around : (t : Tree) (vs : List Visit) → Low (around t vs) → Low vs
  low-around t vs h = (low-both vs (leave t ∷ []) h).0

  low-under : (q : Pattern) (vs : List Visit) → Low (under q vs) → Low vs
  low-under q vs h = (low-both vs (hide q ∷ []) h).0

  -- a pattern that is declared before a body in which it is visible
  low-declared : (q : Pattern) (vs : List Visit) → Low (declare q ∷ under q vs) → AreBelow top (bound_in q) × Low vs
  low-declared q vs h = let both = below-both top (bound_in q) (binders_in (under q vs)) h in (both.0, low-under q vs both.1)

  abbrev IsFine : Tree → Type 0
  IsFine t = (vs : List ℕ) → is_scoped_tree vs t ≡ true → IsWritten t → Low (visits_of t) → IsPlain top t

  one-fine : (t a : Tree) → IsFine a → (vs : List ℕ) → is_scoped_tree vs a ≡ true → IsWritten a → Low (around t (visits_of a)) → IsPlain top a
  one-fine t a go vs s h low = go vs s h (low-around t (visits_of a) low)

  two-fine : (t a b : Tree) → IsFine a → IsFine b → (vs : List ℕ) → (is_scoped_tree vs a && is_scoped_tree vs b) ≡ true → IsWritten a × IsWritten b
      → Low (around t (visits_of a ++ visits_of b)) → IsPlain top a × IsPlain top b
  two-fine t a b go_a go_b vs s h low =
      let both = and_parts (is_scoped_tree vs a) (is_scoped_tree vs b) s in
      let lows = low-both (visits_of a) (visits_of b) (low-around t (visits_of a ++ visits_of b) low) in
      (go_a vs both.0 h.0 lows.0, go_b vs both.1 h.1 lows.1)

  three-fine : (t a b c : Tree) → IsFine a → IsFine b → IsFine c → (vs : List ℕ) → (is_scoped_tree vs a && (is_scoped_tree vs b && is_scoped_tree vs c)) ≡ true
      → IsWritten a × IsWritten b × IsWritten c → Low (around t (visits_of a ++ (visits_of b ++ visits_of c))) → IsPlain top a × IsPlain top b × IsPlain top c
  three-fine t a b c go_a go_b go_c vs s h low =
      let both = and_parts (is_scoped_tree vs a) (is_scoped_tree vs b && is_scoped_tree vs c) s in
      let rest = and_parts (is_scoped_tree vs b) (is_scoped_tree vs c) both.1 in
      let lows = low-both (visits_of a) (visits_of b ++ visits_of c) (low-around t (visits_of a ++ (visits_of b ++ visits_of c)) low) in
      let later = low-both (visits_of b) (visits_of c) lows.1 in
      (go_a vs both.0 h.0 lows.0, go_b vs rest.0 h.1 later.0, go_c vs rest.1 h.2 later.1)

  -- a function's parameter and body
  function-fine : (q : Pattern) (b : Tree) → IsFine b → (vs : List ℕ) → (is_parameter q && is_scoped_tree (bound_in q ++ vs) b) ≡ true → IsWritten b
      → Low (declare q ∷ under q (visits_of b)) → Takes q × AreBelow top (bound_in q) × IsPlain top b
  function-fine q b go vs s h low =
      let both = and_parts (is_parameter q) (is_scoped_tree (bound_in q ++ vs) b) s in let lows = low-declared q (visits_of b) low in
      (both.0, lows.0, go (bound_in q ++ vs) both.1 h lows.1)

  abbrev RowFine : Trees → Type 0
  RowFine es = (vs : List ℕ) → all_under (fold_all scoping es) vs ≡ true → Each (fold_all being_written es) → Low (in_row (fold_all visiting es))
      → Each (fold_all (being_plain top) es)

  -- a chain that has a part has one still
  some-kept : (h : shape.Row) (es : Trees) → HasPart h (fold_all being_written es) → HasPart h (fold_all (being_plain top) es)
  some-kept shape.chain no_trees h = h
  some-kept shape.chain (more_trees e es) h = tt
  some-kept shape.tuple es h = tt
  some-kept (shape.build c w) es h = tt
  some-kept shape.list_of es h = tt

  row-fine : (t : Tree) (r : shape.Row) (es : Trees) → RowFine es → (vs : List ℕ) → (is_scoped_row r && all_under (fold_all scoping es) vs) ≡ true
      → HasPart r (fold_all being_written es) × Each (fold_all being_written es) → Low (around t (in_row (fold_all visiting es)))
      → HasPart r (fold_all (being_plain top) es) × Each (fold_all (being_plain top) es)
  row-fine t r es go vs s h low =
      let both = and_parts (is_scoped_row r) (all_under (fold_all scoping es) vs) s in
      (some-kept r es h.0, go vs both.1 h.1 (low-around t (in_row (fold_all visiting es)) low))

  -- ---- matches

  abbrev ArmsFine : Cases → Type 0
  ArmsFine cs = (vs : List ℕ) → arms_under (fold_cases scoping cs) vs ≡ true → EachBody (fold_cases being_written cs)
      → Low (in_arms (fold_cases visiting cs)) → EachArm top (fold_cases (being_plain top) cs)

  -- the patterns and bodies of arms, also where the first pattern stands before what is matched
  match-low : (first : Bool) (e : List Visit) (as_ : List (Arm (List Visit))) → Low (in_match first e as_) → Low e × Low (in_arms as_)
  match-low false e as_ h = low-both e (in_arms as_) h
  match-low true e [] h = (low-both e [] h)
  match-low true e (a ∷ as_) h =
      let one = below-both top (bound_in a.pattern) (binders_in (e ++ arms_behind true (a ∷ as_))) h in
      let rest = low-both e (arms_behind true (a ∷ as_)) one.1 in
      (rest.0, below-join top (bound_in a.pattern) (binders_in (arms_behind true (a ∷ as_))) one.0 rest.1)

  mutual
    fine : (t : Tree) → IsFine t
    fine (tree i p f) vs s h low = form-fine i p f vs s h low

    form-fine : (i : ℕ) (p : Place) (f : Form) → IsFine (tree i p f)
    form-fine i p (form.whole m) vs s h low = tt
    form-fine i p (form.flag b) vs s h low = tt
    form-fine i p form.unit vs s h low = tt
    form-fine i p (form.use_of x) vs s h low = tt
    form-fine i p (form.qualified m x) vs s h low = tt
    form-fine i p form.assert_false vs s h low = tt
    form-fine i p form.map_empty vs s h low = tt
    form-fine i p (form.negated a) vs s h low = one-fine (tree i p (form.negated a)) a (fine a) vs s h low
    form-fine i p (form.not_of a) vs s h low = one-fine (tree i p (form.not_of a)) a (fine a) vs s h low
    form-fine i p (form.assert a) vs s h low = one-fine (tree i p (form.assert a)) a (fine a) vs s h low
    form-fine i p (form.length_of a) vs s h low = one-fine (tree i p (form.length_of a)) a (fine a) vs s h low
    form-fine i p (form.print a) vs s h low = one-fine (tree i p (form.print a)) a (fine a) vs s h low
    form-fine i p (form.read a) vs s h low = one-fine (tree i p (form.read a)) a (fine a) vs s h low
    form-fine i p (form.call a b) vs s h low = two-fine (tree i p (form.call a b)) a b (fine a) (fine b) vs s h low
    form-fine i p (form.arithmetic o a b) vs s h low = two-fine (tree i p (form.arithmetic o a b)) a b (fine a) (fine b) vs s h low
    form-fine i p (form.compare o a b) vs s h low = two-fine (tree i p (form.compare o a b)) a b (fine a) (fine b) vs s h low
    form-fine i p (form.and_of a b) vs s h low = two-fine (tree i p (form.and_of a b)) a b (fine a) (fine b) vs s h low
    form-fine i p (form.or_of a b) vs s h low = two-fine (tree i p (form.or_of a b)) a b (fine a) (fine b) vs s h low
    form-fine i p (form.make a b) vs s h low = two-fine (tree i p (form.make a b)) a b (fine a) (fine b) vs s h low
    form-fine i p (form.fetch a b) vs s h low = two-fine (tree i p (form.fetch a b)) a b (fine a) (fine b) vs s h low
    form-fine i p (form.map_find a b) vs s h low = two-fine (tree i p (form.map_find a b)) a b (fine a) (fine b) vs s h low
    form-fine i p (form.if_else a b c) vs s h low = three-fine (tree i p (form.if_else a b c)) a b c (fine a) (fine b) (fine c) vs s h low
    form-fine i p (form.store a b c) vs s h low = three-fine (tree i p (form.store a b c)) a b c (fine a) (fine b) (fine c) vs s h low
    form-fine i p (form.map_add a b c) vs s h low = three-fine (tree i p (form.map_add a b c)) a b c (fine a) (fine b) (fine c) vs s h low
    form-fine i p (form.tuple es) vs s h low = row-fine (tree i p (form.tuple es)) shape.tuple es (all-fine es) vs s h low
    form-fine i p (form.build c w es) vs s h low = row-fine (tree i p (form.build c w es)) (shape.build c w) es (all-fine es) vs s h low
    form-fine i p (form.list_of es) vs s h low = row-fine (tree i p (form.list_of es)) shape.list_of es (all-fine es) vs s h low
    form-fine i p (form.chain es) vs s h low = row-fine (tree i p (form.chain es)) shape.chain es (all-fine es) vs s h low
    form-fine i p (form.fun q b) vs s h low =
        function-fine q b (fine b) vs s h (low-around (tree i p (form.fun q b)) (declare q ∷ under q (visits_of b)) low)
    form-fine i p (form.let_in q e b) vs s h low =
        let both = and_parts (is_scoped_tree vs e) (is_scoped_tree (bound_in q ++ vs) b) s in
        let inside = low-around (tree i p (form.let_in q e b)) (declare q ∷ (visits_of e ++ under q (visits_of b))) low in
        let one = below-both top (bound_in q) (binders_in (visits_of e ++ under q (visits_of b))) inside in
        let lows = low-both (visits_of e) (under q (visits_of b)) one.1 in
        (h.0, one.0, fine e vs both.0 h.1 lows.0, fine b (bound_in q ++ vs) both.1 h.2 (low-under q (visits_of b) lows.1))
    form-fine i p (form.let_rec f j r q b e) vs s h low =
        let t = tree i p (form.let_rec f j r q b e) in
        let both = and_parts (is_parameter q) (is_scoped_tree (bound_in q ++ f ∷ vs) b && is_scoped_tree (f ∷ vs) e) s in
        let parts = and_parts (is_scoped_tree (bound_in q ++ f ∷ vs) b) (is_scoped_tree (f ∷ vs) e) both.1 in
        let function = in_function (function_of t) (visits_of b) in
        let inside = (low-both (function ++ (visits_of e ++ hide_name f ∷ [])) (leave t ∷ []) low.1).0 in
        let halves = low-both function (visits_of e ++ hide_name f ∷ []) inside in
        let one = below-both top (bound_in q) (binders_in (under q (visits_of b) ++ leave_function (function_of t) ∷ [])) halves.0 in
        let body = low-under q (visits_of b) (low-both (under q (visits_of b)) (leave_function (function_of t) ∷ []) one.1).0 in
        let rest = (low-both (visits_of e) (hide_name f ∷ []) halves.1).0 in
        (both.0, (low.0, one.0), fine b (bound_in q ++ f ∷ vs) parts.0 h.0 body, fine e (f ∷ vs) parts.1 h.1 rest)
    form-fine i p (form.match_on e cs) vs s h low =
        let t = tree i p (form.match_on e cs) in
        let both = and_parts (is_scoped_tree vs e) (arms_under (fold_cases scoping cs) vs) s in
        let inside = low-around t (in_match (is_let t) (visits_of e) (fold_cases visiting cs)) low in
        let lows = match-low (is_let t) (visits_of e) (fold_cases visiting cs) inside in
        (fine e vs both.0 h.0 lows.0, arms-fine cs vs both.1 h.1 lows.1)

    all-fine : (es : Trees) → RowFine es
    all-fine no_trees vs s h low = tt
    all-fine (more_trees e es) vs s h low =
        let both = and_parts (is_scoped_tree vs e) (all_under (fold_all scoping es) vs) s in
        let lows = low-both (visits_of e) (in_row (fold_all visiting es)) low in
        (fine e vs both.0 h.0 lows.0, all-fine es vs both.1 h.1 lows.1)

    arms-fine : (cs : Cases) → ArmsFine cs
    arms-fine no_cases vs s h low = tt
    arms-fine (more_cases q b cs) vs s h low =
        let both = and_parts (is_scoped_tree (bound_in q ++ vs) b) (arms_under (fold_cases scoping cs) vs) s in
        let one = below-both top (bound_in q) (binders_in (under q (visits_of b) ++ in_arms (fold_cases visiting cs))) low in
        let lows = low-both (under q (visits_of b)) (in_arms (fold_cases visiting cs)) one.1 in
        (one.0, fine b (bound_in q ++ vs) both.0 h.0 (low-under q (visits_of b) lows.0), arms-fine cs vs both.1 h.1 lows.1)

  -- ---- items

  item-fine : (f : ItemForm) (vs : List ℕ) → is_scoped_form vs f ≡ true → ItemIsWritten f → Low (visits_of_form f) → ItemIsPlain top f
  item-fine (type_of d) vs s h low = tt
  item-fine (let_of q e) vs s h low =
      let both = and_parts (is_parameter q) (is_scoped_tree vs e) s in
      let one = below-both top (bound_in q) (binders_in (visits_of e ++ show q ∷ [])) low in
      (one.0, fine e vs both.1 h (low-both (visits_of e) (show q ∷ []) one.1).0)
  item-fine (let_rec_of f r) vs s h low =
      let q = r.parameter in let both = and_parts (is_parameter q) (is_scoped_tree (bound_in q ++ f ∷ vs) r.body) s in
      let one = below-both top (bound_in q) (binders_in (under q (visits_of r.body) ++ leave_function r ∷ [])) low.1 in
      let body = low-under q (visits_of r.body) (low-both (under q (visits_of r.body)) (leave_function r ∷ []) one.1).0 in
      (both.0, (low.0, one.0), fine r.body (bound_in q ++ f ∷ vs) both.1 h body)

  items-fine : (is : List ItemTree) (vs : List ℕ) → are_scoped vs is ≡ true → ItemsAreWritten is → Low (visits_of_items is) → ItemsArePlain top is
  items-fine [] vs s h low = tt
  items-fine (i ∷ is) vs s h low =
      let both = and_parts (is_scoped_form vs i.form) (are_scoped (visible_behind vs i.form) is) s in
      let halves = low-both (visits_of_item i) (visits_of_items is) low in
      let own = (low-both (visits_of_form i.form) (leave_item i ∷ []) halves.0).0 in
      (item-fine i.form vs both.0 h.0 own, items-fine is (visible_behind vs i.form) both.1 h.1 halves.1)

pub are-plain : ScopedProgramsArePlain
are-plain s scoped written =
    let top = length s.sources in
    let few = scoped.named in
    let all = from-below 0 (length (binders_in (visits_of_items s.items))) top (omega (arith, few)) in
    items-fine top s.items [] scoped.scoped written (subst (AreBelow top) (sym scoped.binders) all)
