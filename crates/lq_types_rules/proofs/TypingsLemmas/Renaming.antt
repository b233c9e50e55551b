-- The rules of items stay under other names for the variables of each, where no definition is weak.
use Rattle.std.specs.Prelude.{◌&&◌, ◌==◌, not, if◌then◌else◌}
use Rattle.std.proofs.Common.{◌≡◌, ℕ, ◌+◌, Bool, true, false, List, [], ◌∷◌, Option, Some, None, refl, sym, ap, subst, ◌∙◌}
use Rattle.std.proofs.lemmas.Bool.{false≢true, false_from_ne_true, or_parts}
use Rattle.lq_base_names.specs.declared.place.Place.{Place}
use Rattle.lq_text_tree.specs.MlType as ml
use Rattle.lq_text_tree.specs.MlType.{MlType, MlTypes}
use Rattle.lq_text_tree.specs.Items.{ItemTree, ItemForm, type_of, let_of, let_rec_of}
use Rattle.lq_text_tree.specs.Pattern.{Pattern, pattern, any, bind, nothing, tuple_of, build_of}
use Rattle.lq_text_tree.specs.Tree.{Tree, tree}
use Rattle.lq_text_tree.specs.Types.{Signature, Names, Scheme, plain, general, scheme_in, IsUsedAt, IsInstance, put}
use Rattle.lq_text_tree.specs.TypingRules.{type_in, IsWithin, AreWithin, Covers, DefinesBy, ItemIs, ItemsAre}
use Rattle.lq_text_walk.specs.Walk.Visits.{Visit, leave_item, show, visits_of, visits_of_form, visits_of_item}
use Rattle.lq_text_walk.specs.Scoped.Numbers.{binders_at, binders_in, nodes_of, nodes_of_form}
use Rattle.lq_text_walk.specs.Scoped.Scoping.{Scoping}
use Rattle.lq_text_walk.specs.Scoped.Signature.{signature_in}
use Rattle.lq_types_rules.specs.Equations.Rows.{annotation_of, number_of}
use Rattle.lq_types_rules.specs.Typings.Uses.{is_value}
use Rattle.lq_types_rules.specs.Typings.Principal as principal
use Rattle.lq_types_rules.specs.Typings.Principal.{node_count, IsItemInstance, IsPrincipalAnnotation, is_open, some_open, is_weak, weak_place, first_weak}
use Rattle.lq_types_rules.proofs.TypingsLemmas.Alike.{closed_stays}
use Rattle.lq_types_rules.proofs.TypingsLemmas.Lists.{AllOf, all_left, all_right, from_all, to_all}
use Rattle.lq_types_rules.proofs.TypingsLemmas.Places.{not_there}
use Rattle.lq_types_rules.proofs.TypingsLemmas.Turning.{put_put, Agree, Same, SameAt, at_tree, tree_turn, named_turn, body_turn}
use Rattle.lq_types_rules.proofs.TypingsLemmas.Values.{value_is}

-- ---- closed types

mutual
  closed_within : (a : MlType) → is_open a ≡ false → IsWithin [] a
  closed_within ml.int h = tt
  closed_within ml.bool h = tt
  closed_within ml.unit h = tt
  closed_within (ml.var i) h = sym h
  closed_within (ml.arrow a b) h = let both = or_parts (is_open a) (is_open b) h in (closed_within a both.0, closed_within b both.1)
  closed_within (ml.tuple ts) h = all_closed ts h
  closed_within (ml.array a) h = closed_within a h
  closed_within (ml.named d ts) h = all_closed ts h
  closed_within (ml.map_of a) h = closed_within a h

  all_closed : (ts : MlTypes) → some_open ts ≡ false → AreWithin [] ts
  all_closed ml.no_types h = tt
  all_closed (ml.more_types t ts) h = let both = or_parts (is_open t) (some_open ts) h in (closed_within t both.0, all_closed ts both.1)

closed_if : (v o : Bool) → (not v && o) ≡ false → v ≡ false → o ≡ false
closed_if true o h e = absurd (false≢true (sym e))
closed_if false o h e = h

none_weak : (p : Place) (w : Bool) (o : Option Place) → (if w then Some p else o) ≡ None → (w ≡ false) × (o ≡ None)
none_weak p true o h = absurd (not_there (sym h))
none_weak p false o h = (refl, h)

at_visits : (P : ℕ → Type 0) (us : List Visit) → AllOf P (binders_in us) → AllOf (λ v. AllOf P (binders_at v)) us
at_visits P [] h = tt
at_visits P (u ∷ us) h = (all_left P (binders_at u) (binders_in us) h, at_visits P us (all_right P (binders_at u) (binders_in us) h))

module _ (g : Signature) (nodes : ℕ) (t u : ℕ → MlType) where
  -- the names before an item, and those that stand for them
  record Ready (ns ms : Names) : Type 0 where
    agree : (by : ℕ → MlType) → Agree g nodes t u by ns ms
    covers : Covers [] ms

  abbrev Follows : Scheme → Scheme → Type 0
  Follows s r = (by : ℕ → MlType) (c : MlType) → IsInstance s c → IsInstance r (put by c)

  at_scheme : (y : ℕ) (s r : Scheme) (ns ms : Names) (by : ℕ → MlType) (w : Bool) (c : MlType) → Follows s r → Agree g nodes t u by ns ms
      → IsUsedAt (if w then Some s else scheme_in ns y) c → IsUsedAt (if w then Some r else scheme_in ms y) (put by c)
  at_scheme y s r ns ms by true c follows agree h = follows by c h
  at_scheme y s r ns ms by false c follows agree h = agree y c h

  more_ready : (x : ℕ) (s r : Scheme) (ns ms : Names) → Follows s r → Covers [] ((x, r) ∷ ms) → Ready ns ms → Ready ((x, s) ∷ ns) ((x, r) ∷ ms)
  more_ready x s r ns ms follows covers ready =
      record { agree = λ by y c h. at_scheme y s r ns ms by (x == y) c follows (ready.agree by) h; covers = covers }

  -- an instance of a type is one of each type of which that is one
  general_follows : (fixed : List ℕ) (a b : MlType) (undo : ℕ → MlType) → a ≡ put undo b → Follows (general fixed a) (general [] b)
  general_follows fixed a b undo e by c h = (
    λ i. put by (put h.0 (undo i)),
    λ i m. absurd (false≢true m),
    ap (put by) (h.2 ∙ ap (put h.0) e ∙ put_put b undo h.0) ∙ put_put b (λ i. put h.0 (undo i)) by,
  )

  plain_follows : (a b : MlType) → is_open a ≡ false → b ≡ a → Follows (plain a) (plain b)
  plain_follows a b closed e by c h = ap (put by) h ∙ closed_stays by a closed ∙ sym e

  number_type : (e : Tree) → type_in (annotation_of nodes t) e ≡ t (number_of e)
  number_type (tree i p f) = refl

  -- the scheme of a definition and one that stands for it
  record Stands (e : Tree) (s : Scheme) (ms : Names) : Type 0 where
    scheme : Scheme
    defines : DefinesBy ms e (type_in (annotation_of nodes u) e) scheme
    follows : Follows s scheme
    covers : (x : ℕ) → Covers [] ((x, scheme) ∷ ms)

  stands : (q : Pattern) (e : Tree) (s : Scheme) (ns ms : Names) (by undo : ℕ → MlType) → is_weak t (let_of q e) ≡ false
      → type_in (annotation_of nodes u) e ≡ put by (type_in (annotation_of nodes t) e)
      → type_in (annotation_of nodes t) e ≡ put undo (type_in (annotation_of nodes u) e)
      → Covers [] ms → DefinesBy ns e (type_in (annotation_of nodes t) e) s → Stands e s ms
  stands q e (general fixed b) ns ms by undo weak to back covers d = record {
    scheme = general [] (type_in (annotation_of nodes u) e);
    defines = (refl, d.1, covers);
    follows = general_follows fixed b (type_in (annotation_of nodes u) e) undo (d.0 ∙ back);
    covers = λ x. (λ i m. m, covers);
  }
  stands q e (plain b) ns ms by undo weak to back covers d =
      let no_value = false_from_ne_true (is_value e) (λ v. d.1 (value_is e v)) in
      let own : is_open b ≡ false = ap is_open (d.0 ∙ number_type e) ∙ closed_if (is_value e) (is_open (t (number_of e))) weak no_value in
      let same : type_in (annotation_of nodes u) e ≡ b = to ∙ ap (put by) (sym d.0) ∙ closed_stays by b own in
      record {
        scheme = plain (type_in (annotation_of nodes u) e);
        defines = (refl, d.1);
        follows = plain_follows b (type_in (annotation_of nodes u) e) own same;
        covers = λ x. (subst (IsWithin []) (sym same) (closed_within b own), covers);
      }

  -- ---- items

  item_turn : (f : ItemForm) (by undo : ℕ → MlType) → AllOf (Same g nodes t u by) (nodes_of_form f) → AllOf (Same g nodes u t undo) (nodes_of_form f)
      → AllOf (SameAt g nodes t u by) (visits_of_form f) → AllOf (SameAt g nodes u t undo) (visits_of_form f) → is_weak t f ≡ false → (ns ms : Names)
      → Ready ns ms → (X Y : Names → Type 0)
      → ((ks ls : Names) → Ready ks ls → X ks → Y ls) → ItemIs g (annotation_of nodes t) ns f X → ItemIs g (annotation_of nodes u) ms f Y
  item_turn (type_of d) by undo s b v bv weak ns ms ready X Y rest h = rest ns ms ready h
  item_turn (let_of (pattern p any) e) by undo s b v bv weak ns ms ready X Y rest h =
      let q = pattern p any in
      let st = stands q e h.0 ns ms by undo weak (at_tree g nodes t u by e s) (at_tree g nodes u t undo e b) ready.covers h.1 in
      let inside = (tree_turn g nodes t u by e).turn ns ms (ready.agree by) s (all_left (SameAt g nodes t u by) (visits_of e) (show q ∷ []) v.1) h.3 in
      (st.scheme, st.defines, tt, inside, rest ns ms ready h.4)
  item_turn (let_of (pattern p nothing) e) by undo s b v bv weak ns ms ready X Y rest h =
      let q = pattern p nothing in
      let st = stands q e h.0 ns ms by undo weak (at_tree g nodes t u by e s) (at_tree g nodes u t undo e b) ready.covers h.1 in
      let inside = (tree_turn g nodes t u by e).turn ns ms (ready.agree by) s (all_left (SameAt g nodes t u by) (visits_of e) (show q ∷ []) v.1) h.3 in
      (st.scheme, st.defines, at_tree g nodes t u by e s ∙ ap (put by) h.2, inside, rest ns ms ready h.4)
  item_turn (let_of (pattern p (bind x)) e) by undo s b v bv weak ns ms ready X Y rest h =
      let q = pattern p (bind x) in
      let st = stands q e h.0 ns ms by undo weak (at_tree g nodes t u by e s) (at_tree g nodes u t undo e b) ready.covers h.1 in
      let inside = (tree_turn g nodes t u by e).turn ns ms (ready.agree by) s (all_left (SameAt g nodes t u by) (visits_of e) (show q ∷ []) v.1) h.3 in (
        st.scheme,
        st.defines,
        v.0.0 ∙ ap (put by) h.2 ∙ sym (at_tree g nodes t u by e s),
        inside,
        rest ((x, h.0) ∷ ns) ((x, st.scheme) ∷ ms) (more_ready x h.0 st.scheme ns ms st.follows (st.covers x) ready) h.4,
      )
  item_turn (let_of (pattern p (tuple_of qs)) e) by undo s b v bv weak ns ms ready X Y rest h = absurd h.2
  item_turn (let_of (pattern p (build_of c m qs)) e) by undo s b v bv weak ns ms ready X Y rest h = absurd h.2
  item_turn (let_rec_of f r) by undo s b v bv weak ns ms ready X Y rest h =
      let body = named_turn g nodes t u by f (body_turn g nodes t u by r (tree_turn g nodes t u by r.body)) in
      let out = body.turn ns ms (ready.agree by) s v (λ w. (h.1, h.3 ∙ h.4, h.5), h.6) in
      let function = out.0 tt in
      let tied = (all_right (Same g nodes t u by) (nodes_of r.body) (r.id ∷ []) s).0 ∙ ap (put by) h.3 ∙ sym v.0.0 in
      let follows = general_follows h.0 (t (nodes + f)) (u (nodes + f)) undo bv.0.0 in (
        [],
        function.0,
        ready.covers,
        tied,
        sym tied ∙ function.1,
        function.2,
        out.1,
        rest ((f, general h.0 (t (nodes + f))) ∷ ns) ((f, general [] (u (nodes + f))) ∷ ms)
            (more_ready f (general h.0 (t (nodes + f))) (general [] (u (nodes + f))) ns ms follows (λ i m. m, ready.covers) ready) h.7,
      )

  module _ (i : ItemTree) (a : IsItemInstance nodes t u i) (b : IsItemInstance nodes u t i) where
    same_nodes : AllOf (λ k. u k ≡ put a.0 (t k)) (nodes_of_form i.form)
    same_nodes = from_all (λ k. u k ≡ put a.0 (t k)) (nodes_of_form i.form) a.1

    back_nodes : AllOf (λ k. t k ≡ put b.0 (u k)) (nodes_of_form i.form)
    back_nodes = from_all (λ k. t k ≡ put b.0 (u k)) (nodes_of_form i.form) b.1

    same_visits : AllOf (SameAt g nodes t u a.0) (visits_of_form i.form)
    same_visits =
        let P : ℕ → Type 0 = λ x. u (nodes + x) ≡ put a.0 (t (nodes + x)) in
        all_left (SameAt g nodes t u a.0) (visits_of_form i.form) (leave_item i ∷ []) (at_visits P (visits_of_item i) (from_all P (binders_in (visits_of_item i)) a.2)).1

    back_visits : AllOf (SameAt g nodes u t b.0) (visits_of_form i.form)
    back_visits =
        let P : ℕ → Type 0 = λ x. t (nodes + x) ≡ put b.0 (u (nodes + x)) in
        all_left (SameAt g nodes u t b.0) (visits_of_form i.form) (leave_item i ∷ []) (at_visits P (visits_of_item i) (from_all P (binders_in (visits_of_item i)) b.2)).1

  items_turn : (is : List ItemTree) (ns ms : Names) → Ready ns ms → AllOf (IsItemInstance nodes t u) is → AllOf (IsItemInstance nodes u t) is
      → first_weak t is ≡ None
      → ItemsAre g (annotation_of nodes t) ns is → ItemsAre g (annotation_of nodes u) ms is
  items_turn [] ns ms ready a b weak h = tt
  items_turn (i ∷ is) ns ms ready a b weak h =
      let none = none_weak (weak_place i.form i.place) (is_weak t i.form) (first_weak t is) weak in
      item_turn i.form a.0.0 b.0.0 (same_nodes i a.0 b.0) (back_nodes i a.0 b.0) (same_visits i a.0 b.0) (back_visits i a.0 b.0) none.0 ns ms ready
      (λ ks. ItemsAre g (annotation_of nodes t) ks is) (λ ks. ItemsAre g (annotation_of nodes u) ks is) (λ ks ls more_of x. items_turn is ks ls more_of a.1 b.1 none.1 x) h

-- ---- instances of instances

become_both : (t u w by undo : ℕ → MlType) (ks : List ℕ) → AllOf (λ k. w k ≡ put by (t k)) ks → AllOf (λ k. t k ≡ put undo (u k)) ks
    → AllOf (λ k. w k ≡ put (λ i. put by (undo i)) (u k)) ks
become_both t u w by undo [] h l = tt
become_both t u w by undo (k ∷ ks) h l = (h.0 ∙ ap (put by) l.0 ∙ put_put (u k) undo by, become_both t u w by undo ks h.1 l.1)

module _ (nodes : ℕ) (t u w : ℕ → MlType) where
  instance_both : (i : ItemTree) → IsItemInstance nodes t w i → IsItemInstance nodes u t i → IsItemInstance nodes u w i
  instance_both i a b =
      let ks = nodes_of_form i.form in let xs = binders_in (visits_of_item i) in let by : ℕ → MlType = λ j. put a.0 (b.0 j) in (
        by,
        to_all (λ k. w k ≡ put by (u k)) ks (become_both t u w a.0 b.0 ks (from_all (λ k. w k ≡ put a.0 (t k)) ks a.1) (from_all (λ k. t k ≡ put b.0 (u k)) ks b.1)),
        to_all (λ x. w (nodes + x) ≡ put by (u (nodes + x))) xs
            (become_both (λ x. t (nodes + x)) (λ x. u (nodes + x)) (λ x. w (nodes + x)) a.0 b.0 xs
            (from_all (λ x. w (nodes + x) ≡ put a.0 (t (nodes + x))) xs a.2) (from_all (λ x. t (nodes + x) ≡ put b.0 (u (nodes + x))) xs b.2)),
      )

  instances_both : (is : List ItemTree) → AllOf (IsItemInstance nodes t w) is → AllOf (IsItemInstance nodes u t) is
      → AllOf (IsItemInstance nodes u w) is
  instances_both [] a b = tt
  instances_both (i ∷ is) a b = (instance_both i a.0 b.0, instances_both is a.1 b.1)

pub renamed_are_principal : (s : Scoping) (types others : ℕ → MlType) → IsPrincipalAnnotation s types → first_weak types s.items ≡ None
    → principal.IsInstance s types others → principal.IsInstance s others types → IsPrincipalAnnotation s others
renamed_are_principal s types others is none to back =
    let nodes = node_count s in let g = signature_in s.datatypes in
    let a = from_all (IsItemInstance nodes types others) s.items to in let b = from_all (IsItemInstance nodes others types) s.items back in
    record {
      obeys = items_turn g nodes types others s.items [] [] (record { agree = λ by x c h. h; covers = tt }) a b none is.obeys;
      general = λ more_types h.
          to_all (IsItemInstance nodes others more_types) s.items
          (instances_both nodes types others more_types s.items (from_all (IsItemInstance nodes types more_types) s.items (is.general more_types h)) b);
    }
