-- What the rules of a tree's visits name: slots of its own nodes and binders, and those of the variables that it uses; a case a shape.
use Rattle.std.specs.Prelude.{◌&&◌, ◌||◌, ◌==◌}
use Rattle.std.proofs.Common.{◌≡◌, ℕ, ◌+◌, Bool, true, false, List, [], ◌∷◌, ◌++◌, map, Option, Some, None, refl, sym, ap, ap₂, subst, ◌∙◌, append_assoc}
use Rattle.std.proofs.lemmas.Bool.{and_parts, eqb-true}
use Rattle.std.proofs.lemmas.List.{append-nil}
use Rattle.lq_base_names.specs.declared.place.Place.{Place}
use Rattle.lq_text_tree.specs.Items.{ItemForm, type_of, let_of, let_rec_of}
use Rattle.lq_text_tree.specs.Pattern.{Pattern, bound_in}
use Rattle.lq_text_tree.specs.Tree as form
use Rattle.lq_text_tree.specs.Tree.{Tree, tree, Form, Trees, no_trees, more_trees, Cases, no_cases, more_cases}
use Rattle.lq_text_tree.specs.TreeView.{Recursive}
use Rattle.lq_text_walk.specs.Walk.Fold.{Arm, fold_all, fold_cases}
use Rattle.lq_text_walk.specs.Walk.Shape.{listed, listed_cases}
use Rattle.lq_text_walk.specs.Walk.Visits.{Visit, enter_item, leave_item, enter, leave, leave_function, declare, show, hide, show_name, hide_name, visiting, visits_of, visits_of_form, around, under, in_row, in_arms, in_match, in_function, is_let}
use Rattle.lq_text_walk.specs.Scoped.Numbers.{binders_at, numbering, nodes_of, nodes_of_form, numbers_in, numbers_in_arms}
use Rattle.lq_text_walk.specs.Scoped.Uses.{is_visible, is_parameter, is_apart, scoping, is_scoped_form, is_scoped_tree, all_under, arms_under}
use Rattle.lq_types_rules.specs.Equations.Rows.{number_of}
use Rattle.lq_types_rules.specs.Typings.Fronts.{left_at, left_in}
use Rattle.lq_types_rules.specs.Typings.Uses.{Known, before_in, use_by}
use Rattle.lq_types_rules.specs.Visits.Owning.{pattern_slots, cases_slots, item_slots, slots_by, slots_at}
use Rattle.lq_types_rules.proofs.VisitsLemmas.Lists.{AllOf, all_both, all_left, all_right, all_in, all_out, to_slots}

-- a visit inside of an item
abbrev pub Inner : Visit → Type 0
Inner (enter_item i) = ⊥
Inner (leave_item i) = ⊥
Inner (enter e) = Unit {0}
Inner (leave e) = Unit {0}
Inner (leave_function r) = Unit {0}
Inner (declare q) = Unit {0}
Inner (show q) = Unit {0}
Inner (hide q) = Unit {0}
Inner (show_name x) = Unit {0}
Inner (hide_name x) = Unit {0}

pub left_append : (us vs : List Visit) → left_in (us ++ vs) ≡ left_in us ++ left_in vs
left_append [] vs = refl
left_append (u ∷ us) vs = ap (λ (xs : List ℕ). left_at u ++ xs) (left_append us vs) ∙ sym (append_assoc (left_at u) (left_in us) (left_in vs))

module _ (nodes : ℕ) (Own : ℕ → Type 0) where
  -- the node that is left and the binders that stand here are own ones
  abbrev pub IsMine : Visit → Type 0
  IsMine v = AllOf Own (left_at v) × AllOf (λ x. Own (nodes + x)) (binders_at v)

module _ (nodes : ℕ) (Own : ℕ → Type 0) (k : Known) where
  -- the slots that the rule of the visit names are own ones
  abbrev pub IsNamed : Visit → Type 0
  IsNamed v = AllOf Own (slots_at nodes k v)

  -- so are those of the visible binders that aren't generalised
  abbrev pub AreSeen : List ℕ → Type 0
  AreSeen vs = (x : ℕ) → is_visible vs x ≡ true → before_in k.general x ≡ None → Own (nodes + x)

  -- and those of the definitions before a generalised one that aren't
  abbrev pub AreFixed : Type 0
  AreFixed = (x : ℕ) (ps : List ℕ) → before_in k.general x ≡ Some ps → AllOf (λ p. Own (nodes + p)) ps

  seen_at : (x y : ℕ) (vs : List ℕ) (b : Bool) → (b ≡ true → x ≡ y) → Own (nodes + x) → AreSeen vs → (b || is_visible vs y) ≡ true
      → before_in k.general y ≡ None → Own (nodes + y)
  seen_at x y vs true same own seen h none = subst (λ z. Own (nodes + z)) (same refl) own
  seen_at x y vs false same own seen h none = seen y h none

  pub seen_one : (x : ℕ) (vs : List ℕ) → Own (nodes + x) → AreSeen vs → AreSeen (x ∷ vs)
  seen_one x vs own seen y h none = seen_at x y vs (x == y) (eqb-true x y) own seen h none

  pub seen_more : (xs vs : List ℕ) → AllOf (λ x. Own (nodes + x)) xs → AreSeen vs → AreSeen (xs ++ vs)
  seen_more [] vs own seen = seen
  seen_more (x ∷ xs) vs own seen = seen_one x (xs ++ vs) own.0 (seen_more xs vs own.1 seen)

  module _ (fixed : AreFixed) where
    -- Visits that leave these nodes: where what they leave and bind is one's own, so are these slots and those that their rules name.
    pub record Part (us : List Visit) (ns slots : List ℕ) (sc : List ℕ → Bool) : Type 0 where
      pub inner : AllOf Inner us
      pub left : left_in us ≡ ns
      pub own : AllOf (IsMine nodes Own) us → AllOf Own slots
      pub to : (vs : List ℕ) → AreSeen vs → sc vs ≡ true → AllOf (IsMine nodes Own) us → AllOf IsNamed us

    none_part : Part [] [] [] (λ vs. true)
    none_part = record { inner = tt; left = refl; own = λ mine. tt; to = λ vs seen scoped mine. tt }

    guard_part : {us : List Visit} {ns slots : List ℕ} {sc : List ℕ → Bool} (b : Bool) → Part us ns slots sc → Part us ns slots (λ vs. b && sc vs)
    guard_part {sc = sc} b h = record {
      inner = h.inner;
      left = h.left;
      own = h.own;
      to = λ vs seen scoped mine. h.to vs seen (and_parts b (sc vs) scoped).1 mine;
    }

    pair_part : {us ws : List Visit} {ms ns xs ys : List ℕ} {sa sb : List ℕ → Bool} → Part us ms xs sa → Part ws ns ys sb
        → Part (us ++ ws) (ms ++ ns) (xs ++ ys) (λ vs. sa vs && sb vs)
    pair_part {us = us} {ws = ws} {xs = xs} {ys = ys} {sa = sa} {sb = sb} a b = record {
      inner = all_both Inner us ws a.inner b.inner;
      left = left_append us ws ∙ ap₂ (λ (l : List ℕ) (r : List ℕ). l ++ r) a.left b.left;
      own = λ mine. all_both Own xs ys (a.own (all_left (IsMine nodes Own) us ws mine)) (b.own (all_right (IsMine nodes Own) us ws mine));
      to = λ vs seen scoped mine.
          let both = and_parts (sa vs) (sb vs) scoped in
          all_both IsNamed us ws (a.to vs seen both.0 (all_left (IsMine nodes Own) us ws mine))
          (b.to vs seen both.1 (all_right (IsMine nodes Own) us ws mine));
    }

    -- a visit without a rule before others
    begun_part : {us : List Visit} {ns slots : List ℕ} {sc : List ℕ → Bool} (v : Visit) → Inner v → left_at v ≡ [] → IsNamed v → Part us ns slots sc
        → Part (v ∷ us) ns slots sc
    begun_part {us = us} v in_it none named h = record {
      inner = (in_it, h.inner);
      left = ap (λ (xs : List ℕ). xs ++ left_in us) none ∙ h.left;
      own = λ mine. h.own mine.1;
      to = λ vs seen scoped mine. (named, h.to vs seen scoped mine.1);
    }

    -- and behind them
    ended_part : {us : List Visit} {ns slots : List ℕ} {sc : List ℕ → Bool} (v : Visit) → Inner v → left_at v ≡ [] → IsNamed v → Part us ns slots sc
        → Part (us ++ v ∷ []) ns slots sc
    ended_part {us = us} {ns = ns} v in_it none named h = record {
      inner = all_both Inner us (v ∷ []) h.inner (in_it, tt);
      left = left_append us (v ∷ []) ∙ ap₂ (λ (l : List ℕ) (r : List ℕ). l ++ (r ++ [])) h.left none ∙ append-nil ns;
      own = λ mine. h.own (all_left (IsMine nodes Own) us (v ∷ []) mine);
      to = λ vs seen scoped mine. all_both IsNamed us (v ∷ []) (h.to vs seen scoped (all_left (IsMine nodes Own) us (v ∷ []) mine)) (named, tt);
    }

    -- a visit behind others that leaves a node, whose rule names it and their slots
    ruled_part : {us : List Visit} {ns slots : List ℕ} {sc : List ℕ → Bool} (v : Visit) (i : ℕ) → Inner v → left_at v ≡ i ∷ []
        → slots_at nodes k v ≡ i ∷ slots
        → Part us ns slots sc → Part (us ++ v ∷ []) (ns ++ i ∷ []) (i ∷ []) sc
    ruled_part {us = us} {ns = ns} {slots = slots} v i in_it leaves names h =
        let first : AllOf (IsMine nodes Own) (us ++ v ∷ []) → AllOf Own (i ∷ []) = λ mine. subst (AllOf Own) leaves
        (all_right (IsMine nodes Own) us (v ∷ []) mine).0.0 in
        record {
          inner = all_both Inner us (v ∷ []) h.inner (in_it, tt);
          left = left_append us (v ∷ []) ∙ ap₂ (λ (l : List ℕ) (r : List ℕ). l ++ (r ++ [])) h.left leaves;
          own = first;
          to = λ vs seen scoped mine.
              let before = all_left (IsMine nodes Own) us (v ∷ []) mine in
              all_both IsNamed us (v ∷ []) (h.to vs seen scoped before) (subst (AllOf Own) (sym names) ((first mine).0, h.own before), tt);
        }

    -- the parts of a node, with its own rule
    node_part : {us : List Visit} {ns slots : List ℕ} {sc : List ℕ → Bool} (e : Tree) → slots_at nodes k (leave e) ≡ number_of e ∷ slots
        → Part us ns slots sc
        → Part (around e us) (ns ++ number_of e ∷ []) (number_of e ∷ []) sc
    node_part e names h = begun_part (enter e) tt refl tt (ruled_part (leave e) (number_of e) tt refl names h)

    use_named : (i x : ℕ) (o : Option (List ℕ)) → before_in k.general x ≡ o → Own i → (before_in k.general x ≡ None → Own (nodes + x))
        → AllOf Own (slots_by nodes (use_by i x o) (i ∷ (nodes + x) ∷ []))
    use_named i x None is own other = (own, (other is, tt))
    use_named i x (Some ps) is own other = (own, to_slots Own nodes ps (fixed x ps is))

    use_part : (i : ℕ) (p : Place) (x : ℕ) → Part (around (tree i p (form.use_of x)) []) (i ∷ []) (i ∷ []) (λ vs. is_visible vs x)
    use_part i p x = record {
      inner = (tt, (tt, tt));
      left = refl;
      own = λ mine. mine.1.0.0;
      to = λ vs seen scoped mine. (tt, (use_named i x (before_in k.general x) refl mine.1.0.0.0 (seen x scoped), tt));
    }

    let_part : {us ws : List Visit} {ms ns xs ys : List ℕ} {sa sb : List ℕ → Bool} (q : Pattern) → Part us ms xs sa → Part ws ns ys sb
        → Part (declare q ∷ (us ++ under q ws)) (ms ++ ns) (xs ++ (ys ++ pattern_slots nodes q)) (λ vs. sa vs && sb (bound_in q ++ vs))
    let_part {us = us} {ws = ws} {ms = ms} {ns = ns} {xs = xs} {ys = ys} {sa = sa} {sb = sb} q a b =
        let front : AllOf (IsMine nodes Own) (us ++ under q ws) → AllOf (IsMine nodes Own) us = λ mine. all_left (IsMine nodes Own) us
        (under q ws) mine in
        let body : AllOf (IsMine nodes Own) (us ++ under q ws) → AllOf (IsMine nodes Own) ws =
        λ mine. all_left (IsMine nodes Own) ws (hide q ∷ []) (all_right (IsMine nodes Own) us (under q ws) mine).1 in
        record {
          inner = (tt, all_both Inner us (under q ws) a.inner (tt, all_both Inner ws (hide q ∷ []) b.inner (tt, tt)));
          left = left_append us (under q ws) ∙ ap₂ (λ (l : List ℕ) (r : List ℕ). l ++ r) a.left
              (left_append ws (hide q ∷ []) ∙ append-nil (left_in ws) ∙ b.left);
          own = λ mine. all_both Own xs (ys ++ pattern_slots nodes q) (a.own (front mine.1))
              (all_both Own ys (pattern_slots nodes q) (b.own (body mine.1)) (to_slots Own nodes (bound_in q) mine.0.1));
          to = λ vs seen scoped mine.
              let both = and_parts (sa vs) (sb (bound_in q ++ vs)) scoped in
              let in_body = b.to (bound_in q ++ vs) (seen_more (bound_in q) vs mine.0.1 seen) both.1 (body mine.1) in
              (tt, all_both IsNamed us (under q ws) (a.to vs seen both.0 (front mine.1)) (tt, all_both IsNamed ws (hide q ∷ []) in_body (tt, tt)));
        }

    function_part : {ws : List Visit} {ns ys : List ℕ} {sb : List ℕ → Bool} (q : Pattern) → Part ws ns ys sb
        → Part (declare q ∷ under q ws) ns (ys ++ pattern_slots nodes q) (λ vs. sb (bound_in q ++ vs))
    function_part q b = let_part q none_part b

    -- a name that is bound before others
    named_part : {us : List Visit} {ns slots : List ℕ} {sc : List ℕ → Bool} (f : ℕ) → Part us ns slots sc
        → Part (show_name f ∷ us) ns ((nodes + f) ∷ slots) (λ vs. sc (f ∷ vs))
    named_part f h = record {
      inner = (tt, h.inner);
      left = h.left;
      own = λ mine. (mine.0.1.0, h.own mine.1);
      to = λ vs seen scoped mine. (tt, h.to (f ∷ vs) (seen_one f vs mine.0.1.0 seen) scoped mine.1);
    }

    -- a function behind its name
    body_part : {us : List Visit} {ns : List ℕ} {sb : List ℕ → Bool} (r : Recursive) → Part us ns (number_of r.body ∷ []) sb
        → Part (in_function r us) (ns ++ r.id ∷ []) (r.id ∷ []) (λ vs. sb (bound_in r.parameter ++ vs))
    body_part r b = ruled_part (leave_function r) r.id tt refl refl (function_part r.parameter b)

    rec_part : {us ws : List Visit} {ms ns ys : List ℕ} {sb se : List ℕ → Bool} (f : ℕ) (r : Recursive) → Part us ms (number_of r.body ∷ []) sb
        → Part ws ns ys se
        → Part (show_name f ∷ (in_function r us ++ (ws ++ hide_name f ∷ []))) (ms ++ (r.id ∷ ns)) ((nodes + f) ∷ (r.id ∷ ys))
        (λ vs. sb (bound_in r.parameter ++ f ∷ vs) && se (f ∷ vs))
    rec_part {ms = ms} {ns = ns} f r b e =
        let h = named_part f (pair_part (body_part r b) (ended_part (hide_name f) tt refl tt e)) in
        record { inner = h.inner; left = h.left ∙ append_assoc ms (r.id ∷ []) ns; own = h.own; to = h.to }

    -- the first pattern of a match before what is matched
    match_part : {ns slots : List ℕ} {sc : List ℕ → Bool} (w : Bool) (us : List Visit) (as_ : List (Arm (List Visit)))
        → Part (us ++ in_arms as_) ns slots sc
        → Part (in_match w us as_) ns slots sc
    match_part false us as_ h = h
    match_part true us [] h = h
    match_part true us (a ∷ as_) h =
        let rest = under a.pattern a.body ++ in_arms as_ in
        record {
          inner = all_out Inner (declare a.pattern) us rest h.inner;
          left = left_append us rest ∙ sym (left_append us (declare a.pattern ∷ rest)) ∙ h.left;
          own = λ mine. h.own (all_in (IsMine nodes Own) (declare a.pattern) us rest mine);
          to = λ vs seen scoped mine.
              all_out IsNamed (declare a.pattern) us rest (h.to vs seen scoped (all_in (IsMine nodes Own) (declare a.pattern) us rest mine));
        }

    abbrev pub TreePart : Tree → Type 0
    TreePart e = Part (visits_of e) (nodes_of e) (number_of e ∷ []) (λ vs. is_scoped_tree vs e)

    mutual
      pub tree_part : (e : Tree) → TreePart e
      tree_part (tree i p f) = form_part i p f

      form_part : (i : ℕ) (p : Place) (f : Form) → TreePart (tree i p f)
      form_part i p (form.whole m) = node_part (tree i p (form.whole m)) refl none_part
      form_part i p (form.flag b) = node_part (tree i p (form.flag b)) refl none_part
      form_part i p form.unit = node_part (tree i p form.unit) refl none_part
      form_part i p (form.use_of x) = use_part i p x
      form_part i p (form.qualified m x) = node_part (tree i p (form.qualified m x)) refl (guard_part false none_part)
      form_part i p (form.fun q b) = node_part (tree i p (form.fun q b)) refl (guard_part (is_parameter q) (function_part q (tree_part b)))
      form_part i p (form.tuple es) = node_part (tree i p (form.tuple es)) refl (row_part es)
      form_part i p (form.build c w es) = node_part (tree i p (form.build c w es)) refl (guard_part (is_apart w) (row_part es))
      form_part i p (form.list_of es) = node_part (tree i p (form.list_of es)) refl (row_part es)
      form_part i p (form.let_in q e b) = node_part (tree i p (form.let_in q e b)) refl (let_part q (tree_part e) (tree_part b))
      form_part i p (form.let_rec f j r q b e) =
          node_part (tree i p (form.let_rec f j r q b e)) refl
          (guard_part (is_parameter q) (rec_part f (record { id = j; place = r; parameter = q; body = b }) (tree_part b) (tree_part e)))
      form_part i p (form.call d e) = node_part (tree i p (form.call d e)) refl (pair_part (tree_part d) (tree_part e))
      form_part i p (form.arithmetic o d e) = node_part (tree i p (form.arithmetic o d e)) refl (pair_part (tree_part d) (tree_part e))
      form_part i p (form.negated e) = node_part (tree i p (form.negated e)) refl (tree_part e)
      form_part i p (form.compare o d e) = node_part (tree i p (form.compare o d e)) refl (pair_part (tree_part d) (tree_part e))
      form_part i p (form.not_of e) = node_part (tree i p (form.not_of e)) refl (tree_part e)
      form_part i p (form.and_of d e) = node_part (tree i p (form.and_of d e)) refl (pair_part (tree_part d) (tree_part e))
      form_part i p (form.or_of d e) = node_part (tree i p (form.or_of d e)) refl (pair_part (tree_part d) (tree_part e))
      form_part i p (form.if_else c d e) = node_part (tree i p (form.if_else c d e)) refl
          (pair_part (tree_part c) (pair_part (tree_part d) (tree_part e)))
      form_part i p (form.match_on e cs) =
          let o = tree i p (form.match_on e cs) in
          node_part o refl (match_part (is_let o) (visits_of e) (fold_cases visiting cs) (pair_part (tree_part e) (cases_part cs)))
      form_part i p (form.chain es) = node_part (tree i p (form.chain es)) refl (row_part es)
      form_part i p (form.assert e) = node_part (tree i p (form.assert e)) refl (tree_part e)
      form_part i p form.assert_false = node_part (tree i p form.assert_false) refl none_part
      form_part i p (form.make d e) = node_part (tree i p (form.make d e)) refl (pair_part (tree_part d) (tree_part e))
      form_part i p (form.length_of e) = node_part (tree i p (form.length_of e)) refl (tree_part e)
      form_part i p (form.fetch d e) = node_part (tree i p (form.fetch d e)) refl (pair_part (tree_part d) (tree_part e))
      form_part i p (form.store c d e) = node_part (tree i p (form.store c d e)) refl
          (pair_part (tree_part c) (pair_part (tree_part d) (tree_part e)))
      form_part i p (form.print e) = node_part (tree i p (form.print e)) refl (tree_part e)
      form_part i p (form.read e) = node_part (tree i p (form.read e)) refl (tree_part e)
      form_part i p form.map_empty = node_part (tree i p form.map_empty) refl none_part
      form_part i p (form.map_add c d e) = node_part (tree i p (form.map_add c d e)) refl
          (pair_part (tree_part c) (pair_part (tree_part d) (tree_part e)))
      form_part i p (form.map_find d e) = node_part (tree i p (form.map_find d e)) refl (pair_part (tree_part d) (tree_part e))

      row_part : (es : Trees)
          → Part (in_row (fold_all visiting es)) (numbers_in (fold_all numbering es)) (map number_of (listed es))
          (λ vs. all_under (fold_all scoping es) vs)
      row_part no_trees = none_part
      row_part (more_trees e es) = pair_part (tree_part e) (row_part es)

      cases_part : (cs : Cases)
          → Part (in_arms (fold_cases visiting cs)) (numbers_in_arms (fold_cases numbering cs)) (cases_slots nodes (listed_cases cs))
          (λ vs. arms_under (fold_cases scoping cs) vs)
      cases_part no_cases = none_part
      cases_part (more_cases q e cs) = pair_part (function_part q (tree_part e)) (cases_part cs)

    -- the visits of an item's form
    pub item_part : (f : ItemForm) → Part (visits_of_form f) (nodes_of_form f) (item_slots nodes f) (λ vs. is_scoped_form vs f)
    item_part (type_of d) = guard_part false none_part
    item_part (let_of q e) =
        let h = ended_part (show q) tt refl tt (tree_part e) in
        guard_part (is_parameter q) (record {
          inner = (tt, h.inner);
          left = h.left;
          own = λ mine. all_both Own (number_of e ∷ []) (pattern_slots nodes q) (h.own mine.1) (to_slots Own nodes (bound_in q) mine.0.1);
          to = λ vs seen scoped mine. (tt, h.to vs seen scoped mine.1);
        })
    item_part (let_rec_of f r) = guard_part (is_parameter r.parameter) (named_part f (body_part r (tree_part r.body)))
