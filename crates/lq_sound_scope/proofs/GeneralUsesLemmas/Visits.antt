-- Where the uses that the visits of an item leave are of names that were defined before, so are those in the item.
use Rattle.std.proofs.Common.{ℕ, Bool, true, false, List, [], ◌∷◌, ◌++◌}
use Rattle.lq_base_names.specs.declared.place.Place.{Place}
use Rattle.lq_text_tree.specs.Items.{ItemForm, type_of, let_of, let_rec_of}
use Rattle.lq_text_tree.specs.Pattern.{Pattern}
use Rattle.lq_text_tree.specs.Tree as form
use Rattle.lq_text_tree.specs.Tree.{Tree, tree, Form, Trees, no_trees, more_trees, Cases, no_cases, more_cases}
use Rattle.lq_text_tree.specs.TreeView.{Recursive}
use Rattle.lq_text_walk.specs.Walk.Fold.{Arm, fold_all, fold_cases}
use Rattle.lq_text_walk.specs.Walk.Visits.{Visit, leave, leave_function, declare, show, hide, show_name, hide_name, is_let, function_of, in_row, under, in_arms, arms_behind, in_match, in_function, around, visiting, visits_of, visits_of_form}
use Rattle.lq_meaning_normal_form.specs.Types.Written.{Each, EachBody}
use Rattle.lq_sound_values.specs.Inclusion.Symbols.{Symbols}
use Rattle.lq_refined_templates.specs.Points.Annotation.{Annotation, arguments_at}
use Rattle.lq_sound_scope.specs.GeneralUses.Trees.{IsInstanceOf, using, TreeUses, ItemUses}

module _ (n : Annotation) (S : Symbols) where
  abbrev pub FormUses : ℕ → Form → Type 0
  FormUses i (form.use_of x) = IsInstanceOf S x (arguments_at n i x)
  FormUses i f = Unit {0}

  -- a use that is left is of one of the names
  abbrev pub VisitUses : Visit → Type 0
  VisitUses (leave (tree i p f)) = FormUses i f
  VisitUses v = Unit {0}

  abbrev pub AllUse : List Visit → Type 0
  AllUse [] = Unit {0}
  AllUse (v ∷ vs) = VisitUses v × AllUse vs

  use_both : (vs ws : List Visit) → AllUse (vs ++ ws) → AllUse vs × AllUse ws
  use_both [] ws h = (tt, h)
  use_both (v ∷ vs) ws h = let both = use_both vs ws h.1 in ((h.0, both.0), both.1)

  use_around : (t : Tree) (vs : List Visit) → AllUse (around t vs) → AllUse vs
  use_around t vs h = (use_both vs (leave t ∷ []) h.1).0

  use_under : (q : Pattern) (vs : List Visit) → AllUse (under q vs) → AllUse vs
  use_under q vs h = (use_both vs (hide q ∷ []) h.1).0

  use_function : (r : Recursive) (vs : List Visit) → AllUse (in_function r vs) → AllUse vs
  use_function r vs h = use_under r.parameter vs (use_both (under r.parameter vs) (leave_function r ∷ []) h.1).0

  -- also where the first pattern stands before what is matched
  use_match : (first : Bool) (e : List Visit) (as_ : List (Arm (List Visit))) → AllUse (in_match first e as_) → AllUse e × AllUse (in_arms as_)
  use_match false e as_ h = use_both e (in_arms as_) h
  use_match true e [] h = use_both e [] h
  use_match true e (a ∷ as_) h = let both = use_both e (arms_behind true (a ∷ as_)) h.1 in (both.0, (tt, both.1))

  -- ---- trees

  abbrev Gets : Tree → Type 0
  Gets t = AllUse (visits_of t) → TreeUses n S t

  two : (t a b : Tree) → Gets a → Gets b → AllUse (around t (visits_of a ++ visits_of b)) → TreeUses n S a × TreeUses n S b
  two t a b go_a go_b h =
      let both = use_both (visits_of a) (visits_of b) (use_around t (visits_of a ++ visits_of b) h) in (go_a both.0, go_b both.1)

  three : (t a b c : Tree) → Gets a → Gets b → Gets c → AllUse (around t (visits_of a ++ (visits_of b ++ visits_of c)))
      → TreeUses n S a × TreeUses n S b × TreeUses n S c
  three t a b c go_a go_b go_c h =
      let first = use_both (visits_of a) (visits_of b ++ visits_of c) (use_around t (visits_of a ++ (visits_of b ++ visits_of c)) h) in
      let later = use_both (visits_of b) (visits_of c) first.1 in (go_a first.0, go_b later.0, go_c later.1)

  mutual
    gets : (t : Tree) → Gets t
    gets (tree i p f) h = form_gets i p f h

    form_gets : (i : ℕ) (p : Place) (f : Form) → Gets (tree i p f)
    form_gets i p (form.whole m) h = tt
    form_gets i p (form.flag b) h = tt
    form_gets i p form.unit h = tt
    form_gets i p (form.use_of x) h = h.1.0
    form_gets i p (form.qualified m x) h = tt
    form_gets i p form.assert_false h = tt
    form_gets i p form.map_empty h = tt
    form_gets i p (form.negated a) h = gets a (use_around (tree i p (form.negated a)) (visits_of a) h)
    form_gets i p (form.not_of a) h = gets a (use_around (tree i p (form.not_of a)) (visits_of a) h)
    form_gets i p (form.assert a) h = gets a (use_around (tree i p (form.assert a)) (visits_of a) h)
    form_gets i p (form.length_of a) h = gets a (use_around (tree i p (form.length_of a)) (visits_of a) h)
    form_gets i p (form.print a) h = gets a (use_around (tree i p (form.print a)) (visits_of a) h)
    form_gets i p (form.read a) h = gets a (use_around (tree i p (form.read a)) (visits_of a) h)
    form_gets i p (form.call a b) h = two (tree i p (form.call a b)) a b (gets a) (gets b) h
    form_gets i p (form.arithmetic o a b) h = two (tree i p (form.arithmetic o a b)) a b (gets a) (gets b) h
    form_gets i p (form.compare o a b) h = two (tree i p (form.compare o a b)) a b (gets a) (gets b) h
    form_gets i p (form.and_of a b) h = two (tree i p (form.and_of a b)) a b (gets a) (gets b) h
    form_gets i p (form.or_of a b) h = two (tree i p (form.or_of a b)) a b (gets a) (gets b) h
    form_gets i p (form.make a b) h = two (tree i p (form.make a b)) a b (gets a) (gets b) h
    form_gets i p (form.fetch a b) h = two (tree i p (form.fetch a b)) a b (gets a) (gets b) h
    form_gets i p (form.map_find a b) h = two (tree i p (form.map_find a b)) a b (gets a) (gets b) h
    form_gets i p (form.if_else a b c) h = three (tree i p (form.if_else a b c)) a b c (gets a) (gets b) (gets c) h
    form_gets i p (form.store a b c) h = three (tree i p (form.store a b c)) a b c (gets a) (gets b) (gets c) h
    form_gets i p (form.map_add a b c) h = three (tree i p (form.map_add a b c)) a b c (gets a) (gets b) (gets c) h
    form_gets i p (form.tuple es) h = all_get es (use_around (tree i p (form.tuple es)) (in_row (fold_all visiting es)) h)
    form_gets i p (form.build c w es) h = all_get es (use_around (tree i p (form.build c w es)) (in_row (fold_all visiting es)) h)
    form_gets i p (form.list_of es) h = all_get es (use_around (tree i p (form.list_of es)) (in_row (fold_all visiting es)) h)
    form_gets i p (form.chain es) h = all_get es (use_around (tree i p (form.chain es)) (in_row (fold_all visiting es)) h)
    form_gets i p (form.fun q b) h =
        let inside = use_around (tree i p (form.fun q b)) (declare q ∷ under q (visits_of b)) h in
        gets b (use_under q (visits_of b) inside.1)
    form_gets i p (form.let_in q e b) h =
        let inside = use_around (tree i p (form.let_in q e b)) (declare q ∷ (visits_of e ++ under q (visits_of b))) h in
        let both = use_both (visits_of e) (under q (visits_of b)) inside.1 in
        (gets e both.0, gets b (use_under q (visits_of b) both.1))
    form_gets i p (form.let_rec f j m q b e) h =
        let t = tree i p (form.let_rec f j m q b e) in
        let inside = use_around t (show_name f ∷ (in_function (function_of t) (visits_of b) ++ (visits_of e ++ hide_name f ∷ []))) h in
        let both = use_both (in_function (function_of t) (visits_of b)) (visits_of e ++ hide_name f ∷ []) inside.1 in
        (gets b (use_function (function_of t) (visits_of b) both.0), gets e (use_both (visits_of e) (hide_name f ∷ []) both.1).0)
    form_gets i p (form.match_on e cs) h =
        let t = tree i p (form.match_on e cs) in
        let both =
        use_match (is_let t) (visits_of e) (fold_cases visiting cs) (use_around t (in_match (is_let t) (visits_of e) (fold_cases visiting cs)) h) in
        (gets e both.0, arms_get cs both.1)

    all_get : (es : Trees) → AllUse (in_row (fold_all visiting es)) → Each (fold_all (using n S) es)
    all_get no_trees h = tt
    all_get (more_trees e es) h =
        let both = use_both (visits_of e) (in_row (fold_all visiting es)) h in (gets e both.0, all_get es both.1)

    arms_get : (cs : Cases) → AllUse (in_arms (fold_cases visiting cs)) → EachBody (fold_cases (using n S) cs)
    arms_get no_cases h = tt
    arms_get (more_cases q b cs) h =
        let both = use_both (under q (visits_of b)) (in_arms (fold_cases visiting cs)) h.1 in
        (gets b (use_under q (visits_of b) both.0), arms_get cs both.1)

  pub form_uses : (f : ItemForm) → AllUse (visits_of_form f) → ItemUses n S f
  form_uses (type_of d) h = tt
  form_uses (let_of q e) h = gets e (use_both (visits_of e) (show q ∷ []) h.1).0
  form_uses (let_rec_of f r) h = gets r.body (use_function r (visits_of r.body) h.1)
