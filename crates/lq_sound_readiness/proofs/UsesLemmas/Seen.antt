-- Where names are bound where they are used, and trees fit, their uses fit as what is read is to have them.
use Rattle.std.specs.Prelude.{◌||◌}
use Rattle.std.proofs.Common.{◌≡◌, ℕ, zero, suc, Bool, true, false, ◌&&◌, ◌==◌, List, [], ◌∷◌, ◌++◌, inl, inr, ◌⊎◌, refl}
use Rattle.std.proofs.lemmas.Bool.{and_parts, eqb-true}
use Rattle.lq_base_names.specs.declared.place.Place.{Place}
use Rattle.lq_text_tree.specs.Items.{ItemTree, ItemForm, type_of, let_of, let_rec_of}
use Rattle.lq_text_tree.specs.Pattern.{bound_in}
use Rattle.lq_text_tree.specs.Tree as form
use Rattle.lq_text_tree.specs.Tree.{Tree, tree, Form, Trees, no_trees, more_trees, Cases, no_cases, more_cases}
use Rattle.lq_text_walk.specs.Walk.Fold.{fold_all, fold_cases}
use Rattle.lq_text_walk.specs.Scoped.Uses.{is_visible, is_parameter, is_apart, all_under, arms_under, scoping, is_scoped_tree, is_scoped_form, visible_behind, are_scoped}
use Rattle.lq_meaning_normal_form.specs.Types.Written.{Each, EachBody}
use Rattle.lq_refined_templates.specs.Points.Annotation.{Annotation, type_of_form}
use Rattle.lq_sound_readiness.specs.Reading.Uses.{IsAmong, UsesFit, AllUsesFit, CaseUsesFit, ItemUsesFit, ItemsUsesFit}
use Rattle.lq_sound_readiness.proofs.UsesLemmas.Fitting.{IsNumbered, fitting, Fits, ItemFits, ItemsFit}

one_of : (b r : Bool) (A B : Type 0) → (b ≡ true → A) → (r ≡ true → B) → (b || r) ≡ true → A ⊎ B
one_of true r A B h k e = inl (h refl)
one_of false r A B h k e = inr (k e)

among : (xs : List ℕ) (x : ℕ) → is_visible xs x ≡ true → IsAmong xs x
among [] x h = absurd (cc)
among (y ∷ ys) x h = one_of (y == x) (is_visible ys x) (y ≡ x) (IsAmong ys x) (eqb-true y x) (among ys x) h

module _ (n : Annotation) where
  abbrev Sees : Tree → Type 0
  Sees t = (xs : List ℕ) → is_scoped_tree xs t ≡ true → Fits n t → UsesFit n xs t

  two : (a b : Tree) → Sees a → Sees b → (xs : List ℕ) → (is_scoped_tree xs a && is_scoped_tree xs b) ≡ true → Fits n a × Fits n b
      → UsesFit n xs a × UsesFit n xs b
  two a b go_a go_b xs s h =
      let both = and_parts (is_scoped_tree xs a) (is_scoped_tree xs b) s in (go_a xs both.0 h.0, go_b xs both.1 h.1)

  three : (a b c : Tree) → Sees a → Sees b → Sees c → (xs : List ℕ) → (is_scoped_tree xs a && (is_scoped_tree xs b && is_scoped_tree xs c)) ≡ true
      → Fits n a × Fits n b × Fits n c → UsesFit n xs a × UsesFit n xs b × UsesFit n xs c
  three a b c go_a go_b go_c xs s h =
      let first = and_parts (is_scoped_tree xs a) (is_scoped_tree xs b && is_scoped_tree xs c) s in
      let later = and_parts (is_scoped_tree xs b) (is_scoped_tree xs c) first.1 in
      (go_a xs first.0 h.0, go_b xs later.0 h.1, go_c xs later.1 h.2)

  -- a match with a number has the type of its node
  own_type : (i : ℕ) (e : Tree) (cs : Cases) → IsNumbered i → type_of_form n i (form.match_on e cs) ≡ n.types i
  own_type zero e cs numbered = absurd (numbered refl)
  own_type (suc i) e cs numbered = refl

  mutual
    sees : (t : Tree) → Sees t
    sees (tree i p f) xs s h = form_sees i p f xs s h

    form_sees : (i : ℕ) (p : Place) (f : Form) → Sees (tree i p f)
    form_sees i p (form.whole m) xs s h = tt
    form_sees i p (form.flag b) xs s h = tt
    form_sees i p form.unit xs s h = tt
    form_sees i p (form.use_of x) xs s h = (among xs x s, h)
    form_sees i p (form.qualified m x) xs s h = tt
    form_sees i p form.assert_false xs s h = tt
    form_sees i p form.map_empty xs s h = tt
    form_sees i p (form.negated a) xs s h = sees a xs s h
    form_sees i p (form.not_of a) xs s h = sees a xs s h
    form_sees i p (form.assert a) xs s h = sees a xs s h
    form_sees i p (form.length_of a) xs s h = sees a xs s h
    form_sees i p (form.print a) xs s h = sees a xs s h
    form_sees i p (form.read a) xs s h = sees a xs s h
    form_sees i p (form.call a b) xs s h = two a b (sees a) (sees b) xs s h
    form_sees i p (form.arithmetic o a b) xs s h = two a b (sees a) (sees b) xs s h
    form_sees i p (form.compare o a b) xs s h = two a b (sees a) (sees b) xs s h
    form_sees i p (form.and_of a b) xs s h = two a b (sees a) (sees b) xs s h
    form_sees i p (form.or_of a b) xs s h = two a b (sees a) (sees b) xs s h
    form_sees i p (form.make a b) xs s h = two a b (sees a) (sees b) xs s h
    form_sees i p (form.fetch a b) xs s h = two a b (sees a) (sees b) xs s h
    form_sees i p (form.map_find a b) xs s h = two a b (sees a) (sees b) xs s h
    form_sees i p (form.if_else a b c) xs s h = three a b c (sees a) (sees b) (sees c) xs s h
    form_sees i p (form.store a b c) xs s h = three a b c (sees a) (sees b) (sees c) xs s h
    form_sees i p (form.map_add a b c) xs s h = three a b c (sees a) (sees b) (sees c) xs s h
    form_sees i p (form.tuple es) xs s h = all_see es xs s h
    form_sees i p (form.build c w es) xs s h = all_see es xs (and_parts (is_apart w) (all_under (fold_all scoping es) xs) s).1 h
    form_sees i p (form.list_of es) xs s h = all_see es xs s h
    form_sees i p (form.chain es) xs s h = all_see es xs s h
    form_sees i p (form.fun q b) xs s h =
        sees b (bound_in q ++ xs) (and_parts (is_parameter q) (is_scoped_tree (bound_in q ++ xs) b) s).1 h
    form_sees i p (form.let_in q e b) xs s h =
        let both = and_parts (is_scoped_tree xs e) (is_scoped_tree (bound_in q ++ xs) b) s in
        (sees e xs both.0 h.0, sees b (bound_in q ++ xs) both.1 h.1)
    form_sees i p (form.let_rec f j m q b e) xs s h =
        let first = and_parts (is_parameter q) (is_scoped_tree (bound_in q ++ f ∷ xs) b && is_scoped_tree (f ∷ xs) e) s in
        let both = and_parts (is_scoped_tree (bound_in q ++ f ∷ xs) b) (is_scoped_tree (f ∷ xs) e) first.1 in
        (sees b (bound_in q ++ f ∷ xs) both.0 h.0, sees e (f ∷ xs) both.1 h.1)
    form_sees i p (form.match_on e cs) xs s h =
        let both = and_parts (is_scoped_tree xs e) (arms_under (fold_cases scoping cs) xs) s in
        (own_type i e cs h.0, sees e xs both.0 h.1, arms_see cs xs both.1 h.2)

    all_see : (es : Trees) (xs : List ℕ) → all_under (fold_all scoping es) xs ≡ true → Each (fold_all (fitting n) es) → AllUsesFit n xs es
    all_see no_trees xs s h = tt
    all_see (more_trees e es) xs s h =
        let both = and_parts (is_scoped_tree xs e) (all_under (fold_all scoping es) xs) s in (sees e xs both.0 h.0, all_see es xs both.1 h.1)

    arms_see : (cs : Cases) (xs : List ℕ) → arms_under (fold_cases scoping cs) xs ≡ true → EachBody (fold_cases (fitting n) cs) → CaseUsesFit n xs cs
    arms_see no_cases xs s h = tt
    arms_see (more_cases q b cs) xs s h =
        let both = and_parts (is_scoped_tree (bound_in q ++ xs) b) (arms_under (fold_cases scoping cs) xs) s in
        (sees b (bound_in q ++ xs) both.0 h.0, arms_see cs xs both.1 h.1)

  item_sees : (f : ItemForm) (xs : List ℕ) (rest : List ℕ → Type 0) → is_scoped_form xs f ≡ true → ItemFits n f → rest (visible_behind xs f)
      → ItemUsesFit n xs f rest
  item_sees (type_of d) xs rest s h later = later
  item_sees (let_of q e) xs rest s h later = (sees e xs (and_parts (is_parameter q) (is_scoped_tree xs e) s).1 h, later)
  item_sees (let_rec_of f r) xs rest s h later =
      let ys = bound_in r.parameter ++ f ∷ xs in
      (sees r.body ys (and_parts (is_parameter r.parameter) (is_scoped_tree ys r.body) s).1 h, later)

  pub items_see : (is : List ItemTree) (xs : List ℕ) → are_scoped xs is ≡ true → ItemsFit n is → ItemsUsesFit n xs is
  items_see [] xs s h = tt
  items_see (i ∷ is) xs s h =
      let both = and_parts (is_scoped_form xs i.form) (are_scoped (visible_behind xs i.form) is) s in
      item_sees i.form xs (λ ys. ItemsUsesFit n ys is) both.0 h.0 (items_see is (visible_behind xs i.form) both.1 h.1)
