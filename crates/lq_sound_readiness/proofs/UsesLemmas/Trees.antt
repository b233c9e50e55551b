-- Where the visits of a scoped program fit, its trees do.
use Rattle.std.specs.Prelude.{All}
use Rattle.std.proofs.Common.{ℕ, zero, suc, Bool, true, false, List, [], ◌∷◌, ◌++◌, length, sym, subst, arith}
use Rattle.std.proofs.lemmas.List.Elements.{All-head, All-tail}
use Rattle.lq_base_names.specs.declared.place.Place.{Place}
use Rattle.lq_text_tree.specs.Items.{ItemTree, ItemForm, type_of, let_of, let_rec_of}
use Rattle.lq_text_tree.specs.Pattern.{Pattern}
use Rattle.lq_text_tree.specs.Tree as form
use Rattle.lq_text_tree.specs.Tree.{Tree, tree, Form, Trees, no_trees, more_trees, Cases, no_cases, more_cases}
use Rattle.lq_text_tree.specs.TreeView.{Recursive}
use Rattle.lq_text_walk.specs.Walk.Fold.{Arm, fold_all, fold_cases}
use Rattle.lq_text_walk.specs.Walk.Visits.{Visit, leave, leave_item, leave_function, declare, show, hide, show_name, hide_name, is_let, function_of, in_row, under, in_arms, arms_behind, in_match, in_function, around, visiting, visits_of, visits_of_form, visits_of_item, visits_of_items}
use Rattle.lq_text_walk.specs.Scoped.Numbers.{number_of, numbers_in, numbers_in_arms, behind, numbering, nodes_of, nodes_of_form, nodes_of_items, from_on, AreFrom}
use Rattle.lq_meaning_normal_form.specs.Types.Written.{Each, EachBody}
use Rattle.lq_refined_templates.specs.Points.Annotation.{Annotation}
use Rattle.lq_sound_readiness.specs.Uses.Fits.{VisitFits, SourceUsesFit}
use Rattle.lq_sound_readiness.proofs.UsesLemmas.Fitting.{IsNumbered, fitting, Fits, ItemFits, ItemsFit}

-- ---- numbers: all but the first of a program's are other than 0

abbrev AreNumbered : List ℕ → Type 0
AreNumbered [] = Unit {0}
AreNumbered (x ∷ xs) = IsNumbered x × AreNumbered xs

abbrev Past : List ℕ → Type 0
Past [] = Unit {0}
Past (x ∷ xs) = AreNumbered xs

abbrev IsSome : List ℕ → Type 0
IsSome [] = ⊥
IsSome (x ∷ xs) = Unit {0}

numbered_both : (xs ys : List ℕ) → AreNumbered (xs ++ ys) → AreNumbered xs × AreNumbered ys
numbered_both [] ys h = (tt, h)
numbered_both (x ∷ xs) ys h = let both = numbered_both xs ys h.1 in ((h.0, both.0), both.1)

numbered_past : (xs : List ℕ) → AreNumbered xs → Past xs
numbered_past [] h = tt
numbered_past (x ∷ xs) h = h.1

past_both : (xs ys : List ℕ) → Past (xs ++ ys) → Past xs × Past ys
past_both [] ys h = (tt, h)
past_both (x ∷ xs) ys h = let both = numbered_both xs ys h in (both.0, numbered_past ys both.1)

past_behind : (xs ys : List ℕ) → IsSome xs → Past (xs ++ ys) → AreNumbered ys
past_behind [] ys some h = absurd some
past_behind (x ∷ xs) ys some h = (numbered_both xs ys h).1

some_left : (xs ys : List ℕ) → IsSome xs → IsSome (xs ++ ys)
some_left [] ys some = absurd some
some_left (x ∷ xs) ys some = tt

some_last : (xs : List ℕ) (y : ℕ) → IsSome (xs ++ y ∷ [])
some_last [] y = tt
some_last (x ∷ xs) y = tt

numbered_from : (k m : ℕ) → AreNumbered (from_on (suc k) m)
numbered_from k zero = tt
numbered_from k (suc m) = ((λ e. omega (arith, e)), numbered_from (suc k) m)

past_from : (m : ℕ) → Past (from_on 0 m)
past_from zero = tt
past_from (suc m) = numbered_from 0 m

-- ---- visits

module _ (n : Annotation) where
  abbrev Fit : List Visit → Type 0
  Fit [] = Unit {0}
  Fit (v ∷ vs) = VisitFits n v × Fit vs

  fit_all : (vs : List Visit) → All (VisitFits n) vs → Fit vs
  fit_all [] h = tt
  fit_all (v ∷ vs) h = (All-head (VisitFits n) v vs h, fit_all vs (All-tail (VisitFits n) v vs h))

  fit_both : (vs ws : List Visit) → Fit (vs ++ ws) → Fit vs × Fit ws
  fit_both [] ws h = (tt, h)
  fit_both (v ∷ vs) ws h = let both = fit_both vs ws h.1 in ((h.0, both.0), both.1)

  fit_around : (t : Tree) (vs : List Visit) → Fit (around t vs) → Fit vs
  fit_around t vs h = (fit_both vs (leave t ∷ []) h.1).0

  fit_under : (q : Pattern) (vs : List Visit) → Fit (under q vs) → Fit vs
  fit_under q vs h = (fit_both vs (hide q ∷ []) h.1).0

  fit_function : (r : Recursive) (vs : List Visit) → Fit (in_function r vs) → Fit vs
  fit_function r vs h = fit_under r.parameter vs (fit_both (under r.parameter vs) (leave_function r ∷ []) h.1).0

  -- also where the first pattern stands before what is matched
  fit_match : (first : Bool) (e : List Visit) (as_ : List (Arm (List Visit))) → Fit (in_match first e as_) → Fit e × Fit (in_arms as_)
  fit_match false e as_ h = fit_both e (in_arms as_) h
  fit_match true e [] h = fit_both e [] h
  fit_match true e (a ∷ as_) h = let both = fit_both e (arms_behind true (a ∷ as_)) h.1 in (both.0, (tt, both.1))

  -- ---- trees

  abbrev Gets : Tree → Type 0
  Gets t = Fit (visits_of t) → Past (nodes_of t) → Fits n t × IsSome (nodes_of t)

  one : (t a : Tree) → Gets a → Fit (around t (visits_of a)) → Past (behind (nodes_of a) t) → Fits n a × IsSome (behind (nodes_of a) t)
  one t a go h past =
      ((go (fit_around t (visits_of a) h) (past_both (nodes_of a) (number_of t ∷ []) past).0).0, some_last (nodes_of a) (number_of t))

  two : (t a b : Tree) → Gets a → Gets b → Fit (around t (visits_of a ++ visits_of b)) → Past (behind (nodes_of a ++ nodes_of b) t)
      → (Fits n a × Fits n b) × IsSome (behind (nodes_of a ++ nodes_of b) t)
  two t a b go_a go_b h past =
      let fits = fit_both (visits_of a) (visits_of b) (fit_around t (visits_of a ++ visits_of b) h) in
      let pasts = past_both (nodes_of a) (nodes_of b) (past_both (nodes_of a ++ nodes_of b) (number_of t ∷ []) past).0 in
      (((go_a fits.0 pasts.0).0, (go_b fits.1 pasts.1).0), some_last (nodes_of a ++ nodes_of b) (number_of t))

  three : (t a b c : Tree) → Gets a → Gets b → Gets c → Fit (around t (visits_of a ++ (visits_of b ++ visits_of c)))
      → Past (behind (nodes_of a ++ (nodes_of b ++ nodes_of c)) t) → (Fits n a × Fits n b × Fits n c) × IsSome (behind (nodes_of a ++ (nodes_of b ++ nodes_of c)) t)
  three t a b c go_a go_b go_c h past =
      let ns = nodes_of a ++ (nodes_of b ++ nodes_of c) in
      let fits = fit_both (visits_of a) (visits_of b ++ visits_of c) (fit_around t (visits_of a ++ (visits_of b ++ visits_of c)) h) in
      let later_fits = fit_both (visits_of b) (visits_of c) fits.1 in
      let pasts = past_both (nodes_of a) (nodes_of b ++ nodes_of c) (past_both ns (number_of t ∷ []) past).0 in
      let later = past_both (nodes_of b) (nodes_of c) pasts.1 in
      (((go_a fits.0 pasts.0).0, (go_b later_fits.0 later.0).0, (go_c later_fits.1 later.1).0), some_last ns (number_of t))

  abbrev RowGets : Trees → Type 0
  RowGets es = Fit (in_row (fold_all visiting es)) → Past (numbers_in (fold_all numbering es)) → Each (fold_all (fitting n) es)

  row : (t : Tree) (es : Trees) → RowGets es → Fit (around t (in_row (fold_all visiting es))) → Past (behind (numbers_in (fold_all numbering es)) t)
      → Each (fold_all (fitting n) es) × IsSome (behind (numbers_in (fold_all numbering es)) t)
  row t es go h past =
      let ns = numbers_in (fold_all numbering es) in
      (go (fit_around t (in_row (fold_all visiting es)) h) (past_both ns (number_of t ∷ []) past).0, some_last ns (number_of t))

  mutual
    gets : (t : Tree) → Gets t
    gets (tree i p f) h past = form_gets i p f h past

    form_gets : (i : ℕ) (p : Place) (f : Form) → Gets (tree i p f)
    form_gets i p (form.whole m) h past = (tt, tt)
    form_gets i p (form.flag b) h past = (tt, tt)
    form_gets i p form.unit h past = (tt, tt)
    form_gets i p (form.use_of x) h past = (h.1.0, tt)
    form_gets i p (form.qualified m x) h past = (tt, tt)
    form_gets i p form.assert_false h past = (tt, tt)
    form_gets i p form.map_empty h past = (tt, tt)
    form_gets i p (form.negated a) h past = one (tree i p (form.negated a)) a (gets a) h past
    form_gets i p (form.not_of a) h past = one (tree i p (form.not_of a)) a (gets a) h past
    form_gets i p (form.assert a) h past = one (tree i p (form.assert a)) a (gets a) h past
    form_gets i p (form.length_of a) h past = one (tree i p (form.length_of a)) a (gets a) h past
    form_gets i p (form.print a) h past = one (tree i p (form.print a)) a (gets a) h past
    form_gets i p (form.read a) h past = one (tree i p (form.read a)) a (gets a) h past
    form_gets i p (form.call a b) h past = two (tree i p (form.call a b)) a b (gets a) (gets b) h past
    form_gets i p (form.arithmetic o a b) h past = two (tree i p (form.arithmetic o a b)) a b (gets a) (gets b) h past
    form_gets i p (form.compare o a b) h past = two (tree i p (form.compare o a b)) a b (gets a) (gets b) h past
    form_gets i p (form.and_of a b) h past = two (tree i p (form.and_of a b)) a b (gets a) (gets b) h past
    form_gets i p (form.or_of a b) h past = two (tree i p (form.or_of a b)) a b (gets a) (gets b) h past
    form_gets i p (form.make a b) h past = two (tree i p (form.make a b)) a b (gets a) (gets b) h past
    form_gets i p (form.fetch a b) h past = two (tree i p (form.fetch a b)) a b (gets a) (gets b) h past
    form_gets i p (form.map_find a b) h past = two (tree i p (form.map_find a b)) a b (gets a) (gets b) h past
    form_gets i p (form.if_else a b c) h past = three (tree i p (form.if_else a b c)) a b c (gets a) (gets b) (gets c) h past
    form_gets i p (form.store a b c) h past = three (tree i p (form.store a b c)) a b c (gets a) (gets b) (gets c) h past
    form_gets i p (form.map_add a b c) h past = three (tree i p (form.map_add a b c)) a b c (gets a) (gets b) (gets c) h past
    form_gets i p (form.tuple es) h past = row (tree i p (form.tuple es)) es (all_get es) h past
    form_gets i p (form.build c w es) h past = row (tree i p (form.build c w es)) es (all_get es) h past
    form_gets i p (form.list_of es) h past = row (tree i p (form.list_of es)) es (all_get es) h past
    form_gets i p (form.chain es) h past = row (tree i p (form.chain es)) es (all_get es) h past
    form_gets i p (form.fun q b) h past =
        let inside = fit_around (tree i p (form.fun q b)) (declare q ∷ under q (visits_of b)) h in
        ((gets b (fit_under q (visits_of b) inside.1) (past_both (nodes_of b) (i ∷ []) past).0).0, some_last (nodes_of b) i)
    form_gets i p (form.let_in q e b) h past =
        let inside = fit_around (tree i p (form.let_in q e b)) (declare q ∷ (visits_of e ++ under q (visits_of b))) h in
        let fits = fit_both (visits_of e) (under q (visits_of b)) inside.1 in
        let pasts = past_both (nodes_of e) (nodes_of b) (past_both (nodes_of e ++ nodes_of b) (i ∷ []) past).0 in
        (((gets e fits.0 pasts.0).0, (gets b (fit_under q (visits_of b) fits.1) pasts.1).0), some_last (nodes_of e ++ nodes_of b) i)
    form_gets i p (form.let_rec f j m q b e) h past =
        let t = tree i p (form.let_rec f j m q b e) in
        let inside = fit_around t (show_name f ∷ (in_function (function_of t) (visits_of b) ++ (visits_of e ++ hide_name f ∷ []))) h in
        let fits = fit_both (in_function (function_of t) (visits_of b)) (visits_of e ++ hide_name f ∷ []) inside.1 in
        let ns = nodes_of b ++ (j ∷ nodes_of e) in
        let pasts = past_both (nodes_of b) (j ∷ nodes_of e) (past_both ns (i ∷ []) past).0 in
        let body = gets b (fit_function (function_of t) (visits_of b) fits.0) pasts.0 in
        let rest = gets e (fit_both (visits_of e) (hide_name f ∷ []) fits.1).0 (numbered_past (nodes_of e) pasts.1) in
        ((body.0, rest.0), some_last ns i)
    form_gets i p (form.match_on e cs) h past =
        let t = tree i p (form.match_on e cs) in
        let ns = nodes_of e ++ numbers_in_arms (fold_cases numbering cs) in
        let fits = fit_match (is_let t) (visits_of e) (fold_cases visiting cs) (fit_around t (in_match (is_let t) (visits_of e) (fold_cases visiting cs)) h) in
        let pasts = past_both (nodes_of e) (numbers_in_arms (fold_cases numbering cs)) (past_both ns (i ∷ []) past).0 in
        let first = gets e fits.0 pasts.0 in
        let some = some_left (nodes_of e) (numbers_in_arms (fold_cases numbering cs)) first.1 in
        (((past_behind ns (i ∷ []) some past).0, first.0, arms_get cs fits.1 pasts.1), some_last ns i)

    all_get : (es : Trees) → RowGets es
    all_get no_trees h past = tt
    all_get (more_trees e es) h past =
        let fits = fit_both (visits_of e) (in_row (fold_all visiting es)) h in
        let pasts = past_both (nodes_of e) (numbers_in (fold_all numbering es)) past in
        ((gets e fits.0 pasts.0).0, all_get es fits.1 pasts.1)

    arms_get : (cs : Cases) → Fit (in_arms (fold_cases visiting cs)) → Past (numbers_in_arms (fold_cases numbering cs)) → EachBody (fold_cases (fitting n) cs)
    arms_get no_cases h past = tt
    arms_get (more_cases q b cs) h past =
        let fits = fit_both (under q (visits_of b)) (in_arms (fold_cases visiting cs)) h.1 in
        let pasts = past_both (nodes_of b) (numbers_in_arms (fold_cases numbering cs)) past in
        ((gets b (fit_under q (visits_of b) fits.0) pasts.0).0, arms_get cs fits.1 pasts.1)

  -- ---- programs

  form_fits : (f : ItemForm) → Fit (visits_of_form f) → Past (nodes_of_form f) → ItemFits n f
  form_fits (type_of d) h past = tt
  form_fits (let_of q e) h past = (gets e (fit_both (visits_of e) (show q ∷ []) h.1).0 past).0
  form_fits (let_rec_of f r) h past =
      (gets r.body (fit_function r (visits_of r.body) h.1) (past_both (nodes_of r.body) (r.id ∷ []) past).0).0

  items_fit : (is : List ItemTree) → Fit (visits_of_items is) → Past (nodes_of_items is) → ItemsFit n is
  items_fit [] h past = tt
  items_fit (i ∷ is) h past =
      let fits = fit_both (visits_of_item i) (visits_of_items is) h in
      let pasts = past_both (nodes_of_form i.form) (nodes_of_items is) past in
      (form_fits i.form (fit_both (visits_of_form i.form) (leave_item i ∷ []) fits.0.1).0 pasts.0, items_fit is fits.1 pasts.1)

pub source_fits : (n : Annotation) (is : List ItemTree) → AreFrom 0 (nodes_of_items is) → SourceUsesFit n is → ItemsFit n is
source_fits n is numbers h =
    items_fit n is (fit_all n (visits_of_items is) h) (subst Past (sym numbers) (past_from (length (nodes_of_items is))))
