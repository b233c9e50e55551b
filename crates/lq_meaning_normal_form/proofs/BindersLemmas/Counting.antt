-- How often a binder stands in a tree, by its parts, and that this is how often the visits of the tree have it.
use Rattle.std.proofs.Common.{◌≡◌, ℕ, ◌+◌, Bool, true, false, List, [], ◌∷◌, ◌++◌, refl, sym, ap, ◌∙◌, arith, append_assoc}
use Rattle.lq_base_names.specs.declared.place.Place.{Place}
use Rattle.lq_text_tree.specs.Items.{ItemTree, ItemForm, type_of, let_of, let_rec_of}
use Rattle.lq_text_tree.specs.Pattern.{Pattern, bound_in}
use Rattle.lq_text_tree.specs.Tree as form
use Rattle.lq_text_tree.specs.Tree.{Tree, tree, Form, Trees, no_trees, more_trees, Cases, no_cases, more_cases}
use Rattle.lq_text_tree.specs.TreeView.{Recursive}
use Rattle.lq_text_walk.specs.Walk.Fold.{Arm, fold_all, fold_cases}
use Rattle.lq_text_walk.specs.Walk.Visits.{Visit, leave, leave_item, leave_function, declare, show, hide, show_name, hide_name, visiting, visits_of, visits_of_form, visits_of_item, visits_of_items, around, under, in_row, in_arms, in_match, in_function, has_let}
use Rattle.lq_text_walk.specs.Scoped.Numbers.{binders_at, binders_in, binders_of_items}
use Rattle.lq_meaning_normal_form.specs.Binders.Counting.{times, counted, counted_all, counted_cases, counted_form, counted_items}
use Rattle.lq_meaning_normal_form.proofs.BindersLemmas.Times.{times_append}

-- ---- visits

abbrev met : ℕ → List Visit → ℕ
met x vs = times x (binders_in vs)

module _ (x : ℕ) where
  binders_append : (vs ws : List Visit) → binders_in (vs ++ ws) ≡ binders_in vs ++ binders_in ws
  binders_append [] ws = refl
  binders_append (v ∷ vs) ws = ap (λ bs. binders_at v ++ bs) (binders_append vs ws) ∙ sym (append_assoc (binders_at v) (binders_in vs) (binders_in ws))

  met_append : (vs ws : List Visit) → met x (vs ++ ws) ≡ met x vs + met x ws
  met_append vs ws = ap (times x) (binders_append vs ws) ∙ times_append x (binders_in vs) (binders_in ws)

  met_one : (v : Visit) (vs : List Visit) → met x (v ∷ vs) ≡ times x (binders_at v) + met x vs
  met_one v vs = times_append x (binders_at v) (binders_in vs)

  met_around : (t : Tree) (vs : List Visit) → met x (around t vs) ≡ met x vs
  met_around t vs = let last = met_append vs (leave t ∷ []) in omega (arith, last)

  met_under : (p : Pattern) (vs : List Visit) → met x (under p vs) ≡ met x vs
  met_under p vs = let last = met_append vs (hide p ∷ []) in omega (arith, last)

  met_declared : (p : Pattern) (vs : List Visit) → met x (declare p ∷ vs) ≡ times x (bound_in p) + met x vs
  met_declared p vs = met_one (declare p) vs

  met_function : (r : Recursive) (vs : List Visit) → met x (in_function r vs) ≡ times x (bound_in r.parameter) + met x vs
  met_function r vs =
      let body = met_under r.parameter vs in
      let last = met_append (under r.parameter vs) (leave_function r ∷ []) in
      let first = met_declared r.parameter (under r.parameter vs ++ leave_function r ∷ []) in omega (arith, body, last, first)

  met_two : (t : Tree) (as_ bs : List Visit) → met x (around t (as_ ++ bs)) ≡ met x as_ + met x bs
  met_two t as_ bs = met_around t (as_ ++ bs) ∙ met_append as_ bs

  met_three : (t : Tree) (as_ bs cs : List Visit) → met x (around t (as_ ++ (bs ++ cs))) ≡ met x as_ + (met x bs + met x cs)
  met_three t as_ bs cs = let whole = met_two t as_ (bs ++ cs) in let rest = met_append bs cs in omega (arith, whole, rest)

  abbrev met_arms : List (Arm (List Visit)) → ℕ
  met_arms [] = 0
  met_arms (a ∷ as_) = times x (bound_in a.pattern) + (met x a.body + met_arms as_)

  arms_met : (as_ : List (Arm (List Visit))) → met x (in_arms as_) ≡ met_arms as_
  arms_met [] = refl
  arms_met (a ∷ as_) =
      let rest = arms_met as_ in let body = met_under a.pattern a.body in let both = met_append (under a.pattern a.body) (in_arms as_) in
      let first = met_declared a.pattern (under a.pattern a.body ++ in_arms as_) in omega (arith, rest, body, both, first)

  -- where the pattern of the first arm stands changes nothing
  match_met : (b : Bool) (e : List Visit) (as_ : List (Arm (List Visit))) → met x (in_match b e as_) ≡ met x e + met_arms as_
  match_met false e as_ = let both = met_append e (in_arms as_) in let arms = arms_met as_ in omega (arith, both, arms)
  match_met true e [] = met_append e []
  match_met true e (a ∷ as_) =
      let first = met_declared a.pattern (e ++ (under a.pattern a.body ++ in_arms as_)) in
      let both = met_append e (under a.pattern a.body ++ in_arms as_) in
      let behind = met_append (under a.pattern a.body) (in_arms as_) in
      let body = met_under a.pattern a.body in let rest = arms_met as_ in omega (arith, first, both, behind, body, rest)

  -- ---- trees

  abbrev Counts : Tree → Type 0
  Counts t = met x (visits_of t) ≡ counted x t

  one_counts : (t a : Tree) → Counts a → met x (around t (visits_of a)) ≡ counted x a
  one_counts t a h = met_around t (visits_of a) ∙ h

  two_count : (t a b : Tree) → Counts a → Counts b → met x (around t (visits_of a ++ visits_of b)) ≡ counted x a + counted x b
  two_count t a b h g = let both = met_two t (visits_of a) (visits_of b) in omega (arith, both, h, g)

  three_count : (t a b c : Tree) → Counts a → Counts b → Counts c → met x (around t (visits_of a ++ (visits_of b ++ visits_of c))) ≡ counted x a + (counted x b + counted x c)
  three_count t a b c h g f = let all = met_three t (visits_of a) (visits_of b) (visits_of c) in omega (arith, all, h, g, f)

  row_counts : (t : Tree) (es : Trees) → met x (in_row (fold_all visiting es)) ≡ counted_all x es → met x (around t (in_row (fold_all visiting es))) ≡ counted_all x es
  row_counts t es h = met_around t (in_row (fold_all visiting es)) ∙ h

  mutual
    pub counts : (t : Tree) → Counts t
    counts (tree i p f) = form_counts i p f

    form_counts : (i : ℕ) (p : Place) (f : Form) → Counts (tree i p f)
    form_counts i p (form.whole n) = refl
    form_counts i p (form.flag b) = refl
    form_counts i p form.unit = refl
    form_counts i p (form.use_of y) = refl
    form_counts i p (form.qualified m y) = refl
    form_counts i p form.assert_false = refl
    form_counts i p form.map_empty = refl
    form_counts i p (form.fun q b) =
        let h = counts b in let body = met_under q (visits_of b) in let first = met_declared q (under q (visits_of b)) in
        let all = met_around (tree i p (form.fun q b)) (declare q ∷ under q (visits_of b)) in omega (arith, h, body, first, all)
    form_counts i p (form.let_in q e b) =
        let h = counts e in let g = counts b in let body = met_under q (visits_of b) in
        let both = met_append (visits_of e) (under q (visits_of b)) in let first = met_declared q (visits_of e ++ under q (visits_of b)) in
        let all = met_around (tree i p (form.let_in q e b)) (declare q ∷ (visits_of e ++ under q (visits_of b))) in omega (arith, h, g, body, both, first, all)
    form_counts i p (form.let_rec f j n q b e) =
        let t = tree i p (form.let_rec f j n q b e) in
        let r : Recursive = record { id = j; place = n; parameter = q; body = b } in
        let h = counts b in let g = counts e in let body = met_function r (visits_of b) in
        let last = met_append (visits_of e) (hide_name f ∷ []) in
        let both = met_append (in_function r (visits_of b)) (visits_of e ++ hide_name f ∷ []) in
        let first = met_one (show_name f) (in_function r (visits_of b) ++ (visits_of e ++ hide_name f ∷ [])) in
        let all = met_around t (show_name f ∷ (in_function r (visits_of b) ++ (visits_of e ++ hide_name f ∷ []))) in
        omega (arith, h, g, body, last, both, first, all)
    form_counts i p (form.tuple es) = row_counts (tree i p (form.tuple es)) es (all_count es)
    form_counts i p (form.build c w es) = row_counts (tree i p (form.build c w es)) es (all_count es)
    form_counts i p (form.list_of es) = row_counts (tree i p (form.list_of es)) es (all_count es)
    form_counts i p (form.chain es) = row_counts (tree i p (form.chain es)) es (all_count es)
    form_counts i p (form.call a b) = two_count (tree i p (form.call a b)) a b (counts a) (counts b)
    form_counts i p (form.arithmetic o a b) = two_count (tree i p (form.arithmetic o a b)) a b (counts a) (counts b)
    form_counts i p (form.compare o a b) = two_count (tree i p (form.compare o a b)) a b (counts a) (counts b)
    form_counts i p (form.and_of a b) = two_count (tree i p (form.and_of a b)) a b (counts a) (counts b)
    form_counts i p (form.or_of a b) = two_count (tree i p (form.or_of a b)) a b (counts a) (counts b)
    form_counts i p (form.make a b) = two_count (tree i p (form.make a b)) a b (counts a) (counts b)
    form_counts i p (form.fetch a b) = two_count (tree i p (form.fetch a b)) a b (counts a) (counts b)
    form_counts i p (form.map_find a b) = two_count (tree i p (form.map_find a b)) a b (counts a) (counts b)
    form_counts i p (form.negated a) = one_counts (tree i p (form.negated a)) a (counts a)
    form_counts i p (form.not_of a) = one_counts (tree i p (form.not_of a)) a (counts a)
    form_counts i p (form.length_of a) = one_counts (tree i p (form.length_of a)) a (counts a)
    form_counts i p (form.assert a) = one_counts (tree i p (form.assert a)) a (counts a)
    form_counts i p (form.print a) = one_counts (tree i p (form.print a)) a (counts a)
    form_counts i p (form.read a) = one_counts (tree i p (form.read a)) a (counts a)
    form_counts i p (form.if_else a b c) = three_count (tree i p (form.if_else a b c)) a b c (counts a) (counts b) (counts c)
    form_counts i p (form.store a b c) = three_count (tree i p (form.store a b c)) a b c (counts a) (counts b) (counts c)
    form_counts i p (form.map_add a b c) = three_count (tree i p (form.map_add a b c)) a b c (counts a) (counts b) (counts c)
    form_counts i p (form.match_on e cs) =
        let t = tree i p (form.match_on e cs) in
        let h = counts e in let g = cases_count cs in
        let both = match_met (has_let e cs) (visits_of e) (fold_cases visiting cs) in
        let all = met_around t (in_match (has_let e cs) (visits_of e) (fold_cases visiting cs)) in omega (arith, h, g, both, all)

    all_count : (es : Trees) → met x (in_row (fold_all visiting es)) ≡ counted_all x es
    all_count no_trees = refl
    all_count (more_trees e es) =
        let h = counts e in let g = all_count es in let both = met_append (visits_of e) (in_row (fold_all visiting es)) in omega (arith, h, g, both)

    cases_count : (cs : Cases) → met_arms (fold_cases visiting cs) ≡ counted_cases x cs
    cases_count no_cases = refl
    cases_count (more_cases q b cs) = let h = counts b in let g = cases_count cs in omega (arith, h, g)

  -- ---- programs

  form_met : (f : ItemForm) → met x (visits_of_form f) ≡ counted_form x f
  form_met (type_of d) = refl
  form_met (let_of q e) =
      let h = counts e in let last = met_append (visits_of e) (show q ∷ []) in let first = met_declared q (visits_of e ++ show q ∷ []) in omega (arith, h, last, first)
  form_met (let_rec_of f r) =
      let h = counts r.body in let body = met_function r (visits_of r.body) in let first = met_one (show_name f) (in_function r (visits_of r.body)) in omega (arith, h, body, first)

  item_met : (i : ItemTree) → met x (visits_of_item i) ≡ counted_form x i.form
  item_met i = let h = form_met i.form in let last = met_append (visits_of_form i.form) (leave_item i ∷ []) in omega (arith, h, last)

  pub items_count : (is : List ItemTree) → times x (binders_of_items is) ≡ counted_items x is
  items_count [] = refl
  items_count (i ∷ is) =
      let h = item_met i in let g = items_count is in let both = met_append (visits_of_item i) (visits_of_items is) in omega (arith, h, g, both)
