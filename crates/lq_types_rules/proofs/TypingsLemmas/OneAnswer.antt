-- A program has at most one answer.
use Rattle.std.specs.Prelude.{All, min, ◌-◌, ◌^◌, ◌&&◌, nat_lt, not, if◌then◌else◌}
use Rattle.std.proofs.Common.{◌≡◌, ℕ, ◌+◌, Bool, List, [], ◌∷◌, ◌++◌, map, Option, Some, refl, sym, ap, ap₂, subst, ◌∙◌, arith, append_assoc}
use Rattle.std.proofs.lemmas.List.{map-append}
use Rattle.lq_base_names.specs.declared.place.Place.{Place}
use Rattle.lq_text_tree.specs.MlType as ml
use Rattle.lq_text_tree.specs.MlType.{MlType}
use Rattle.lq_text_tree.specs.Items.{ItemTree, ItemForm, type_of, let_of, let_rec_of}
use Rattle.lq_text_tree.specs.Tree.{tree}
use Rattle.lq_text_tree.specs.Types.{Signature, put}
use Rattle.lq_text_walk.specs.Walk.Visits.{Visit, enter_item, leave_item, enter, leave, leave_function, declare, show, hide, show_name, hide_name, visits_of_item, visits_of_items}
use Rattle.lq_text_walk.specs.Scoped.Numbers.{nodes_of_form, nodes_of_items, binders_in}
use Rattle.lq_text_walk.specs.Scoped.Scoping.{Scoping, IsScoped}
use Rattle.lq_text_walk.specs.Scoped.Signature.{signature_in}
use Rattle.lq_types_rules.specs.Equations.Rows.{number_of}
use Rattle.lq_types_rules.specs.Typings.Fronts.{left_in}
use Rattle.lq_types_rules.specs.Typings.Inference.{place_at, IsUpTo, IsIllTyped, Answer, typed, ill_typed, weak, past, IsInference}
use Rattle.lq_types_rules.specs.Typings.OneAnswer.{AreSameIn, AreSame}
use Rattle.lq_types_rules.specs.Typings.Principal.{node_count, IsAnnotation, IsPrincipalAnnotation, IsItemInstance, is_weak, weak_place, first_weak, placed_in, first_past, variables_of, variables_at, AreNumbered, in_order, own_node, IsNumbered}
use Rattle.lq_types_rules.specs.Typings.Uses.{Known, none_known, behind, is_value, ObeysFrom}
use Rattle.lq_types_rules.proofs.TypingsLemmas.Alike.{name_of, Alike, alike_size, alike_open, each_list, list_each, leaves_stay, IsUndone, undone, variables_put, numbered_stay}
use Rattle.lq_types_rules.proofs.TypingsLemmas.Leaving.{items_left}
use Rattle.lq_types_rules.proofs.TypingsLemmas.Lists.{AllOf, all_both, all_left, all_right, from_all, to_all}
use Rattle.lq_types_rules.proofs.TypingsLemmas.Places.{in_first, in_rest, cut_of, head_of, some_of, not_there}
use Rattle.lq_types_rules.proofs.TypingsLemmas.Programs.{visits_are_rules}
use Rattle.lq_types_rules.proofs.TypingsLemmas.Roots.{root, own}

-- ---- lists

all_map : (P : ℕ → Type 0) (f : ℕ → ℕ) (xs : List ℕ) → AllOf (λ x. P (f x)) xs → AllOf P (map f xs)
all_map P f [] h = tt
all_map P f (x ∷ xs) h = (h.0, all_map P f xs h.1)

map_all : (P : ℕ → Type 0) (f : ℕ → ℕ) (xs : List ℕ) → AllOf P (map f xs) → AllOf (λ x. P (f x)) xs
map_all P f [] h = tt
map_all P f (x ∷ xs) h = (h.0, map_all P f xs h.1)

-- ---- places

obeys_left : (g : Signature) (nodes : ℕ) (t : ℕ → MlType) (k : Known) (us ws : List Visit) → ObeysFrom g nodes k (us ++ ws) t
    → ObeysFrom g nodes k us t
obeys_left g nodes t k [] ws h = tt
obeys_left g nodes t k (u ∷ us) ws h = (h.0, obeys_left g nodes t (behind k u) us ws h.1)

module _ (s : Scoping) where
  -- no types obey the rules of more visits
  beyond : (p : Place) (ill : IsIllTyped s p) (us ws : List Visit) → us ≡ ill.front ++ ill.visit ∷ ws → (types : ℕ → MlType) → IsUpTo s us types → ⊥
  beyond p ill us ws same types h =
      let parts : us ≡ (ill.front ++ ill.visit ∷ []) ++ ws = same ∙ sym (append_assoc ill.front (ill.visit ∷ []) ws) in
      ill.cannot types
      (obeys_left (signature_in s.datatypes) (node_count s) types none_known (ill.front ++ ill.visit ∷ []) ws (subst (λ xs. IsUpTo s xs types) parts h))

  rest_same : (p q : Place) (a : IsIllTyped s p) (b : IsIllTyped s q) (us : List Visit) → b.front ≡ a.front ++ us
      → a.visit ∷ a.later ≡ us ++ b.visit ∷ b.later → p ≡ q
  rest_same p q a b [] same rest = ap (some_of p) (sym a.there ∙ ap place_at (ap (head_of a.visit) rest) ∙ b.there)
  rest_same p q a b (u ∷ us) same rest =
      let first = ap (head_of a.visit) rest in
      absurd (beyond p a b.front us (same ∙ ap (λ v. a.front ++ v ∷ us) (sym first)) b.can.0 b.can.1)

  ill_same : (p q : Place) → IsIllTyped s p → IsIllTyped s q → p ≡ q
  ill_same p q a b = elim (cut_of a.front (a.visit ∷ a.later) b.front b.visit b.later (sym a.split ∙ b.split)) [
    | in_first ws e ↦ absurd (beyond q b a.front ws e a.can.0 a.can.1)
    | in_rest us e rest ↦ rest_same p q a b us e rest
  ]

  -- a program with an annotation is not ill typed
  typed_not_ill : IsScoped s → (types : ℕ → MlType) → IsAnnotation s types → (p : Place) → IsIllTyped s p → ⊥
  typed_not_ill scoped types h p ill =
      beyond p ill (visits_of_items s.items) ill.later ill.split types ((visits_are_rules (signature_in s.datatypes) (node_count s) types s scoped).visits_obey h)

-- ---- two principal annotations

module _ (nodes : ℕ) (t u : ℕ → MlType) where
  becomes : (by undo : ℕ → MlType) (ks : List ℕ) → AllOf (λ k. u k ≡ put by (t k)) ks → AllOf (λ k. t k ≡ put undo (u k)) ks
      → AllOf (λ k. (u k ≡ put by (t k)) × (t k ≡ put undo (u k))) ks
  becomes by undo [] h l = tt
  becomes by undo (k ∷ ks) h l = ((h.0, l.0), becomes by undo ks h.1 l.1)

  are_alike : (by undo : ℕ → MlType) (ks : List ℕ) → AllOf (λ k. (u k ≡ put by (t k)) × (t k ≡ put undo (u k))) ks → AllOf (λ k. Alike (t k) (u k)) ks
  are_alike by undo [] h = tt
  are_alike by undo (k ∷ ks) h = (((by, h.0.0), (undo, h.0.1)), are_alike by undo ks h.1)

  pairs : (i : ItemTree) (a : IsItemInstance nodes t u i) (b : IsItemInstance nodes u t i)
      → AllOf (λ k. (u k ≡ put a.0 (t k)) × (t k ≡ put b.0 (u k))) (nodes_of_form i.form)
  pairs i a b =
      let ks = nodes_of_form i.form in
      becomes a.0 b.0 ks (from_all (λ k. u k ≡ put a.0 (t k)) ks a.1) (from_all (λ k. t k ≡ put b.0 (u k)) ks b.1)

  all_alike : (is : List ItemTree) → AllOf (IsItemInstance nodes t u) is → AllOf (IsItemInstance nodes u t) is
      → AllOf (λ i. AllOf (λ k. Alike (t k) (u k)) (nodes_of_form i.form)) is
  all_alike [] h l = tt
  all_alike (i ∷ is) h l = (are_alike h.0.0 l.0.0 (nodes_of_form i.form) (pairs i h.0 l.0), all_alike is h.1 l.1)

  weak_same : (f : ItemForm) → AllOf (λ k. Alike (t k) (u k)) (nodes_of_form f) → is_weak t f ≡ is_weak u f
  weak_same (type_of d) h = refl
  weak_same (let_of q e) h =
      ap (λ (b : Bool). not (is_value e) && b) (alike_open (t (number_of e)) (u (number_of e)) (root (λ k. Alike (t k) (u k)) e h))
  weak_same (let_rec_of f r) h = refl

  first_weak_same : (is : List ItemTree) → AllOf (λ i. AllOf (λ k. Alike (t k) (u k)) (nodes_of_form i.form)) is → first_weak t is ≡ first_weak u is
  first_weak_same [] h = refl
  first_weak_same (i ∷ is) h =
      ap₂ (λ (b : Bool) (o : Option Place). if b then Some (weak_place i.form i.place) else o) (weak_same i.form h.0) (first_weak_same is h.1)

  all_nodes : (is : List ItemTree) → AllOf (λ i. AllOf (λ k. Alike (t k) (u k)) (nodes_of_form i.form)) is
      → AllOf (λ k. Alike (t k) (u k)) (nodes_of_items is)
  all_nodes [] h = tt
  all_nodes (i ∷ is) h = all_both (λ k. Alike (t k) (u k)) (nodes_of_form i.form) (nodes_of_items is) h.0 (all_nodes is h.1)

  first_past_same : (ns : List (ℕ × Place)) → AllOf (λ n. Alike (t n.0) (u n.0)) ns → first_past t ns ≡ first_past u ns
  first_past_same [] h = refl
  first_past_same (n ∷ ns) h =
      ap₂ (λ (z : ℕ) (o : Option (Place × ℕ)). if nat_lt 2000 z then Some (n.1, min z (2 ^ 64 - 1)) else o) (alike_size (t n.0) (u n.0) h.0) (first_past_same ns h.1)

  -- ---- numbered variables

  module _ (i : ItemTree) (a : IsItemInstance nodes t u i) (b : IsItemInstance nodes u t i) where
    abbrev IsPair : ℕ → Type 0
    IsPair k = (u k ≡ put a.0 (t k)) × (t k ≡ put b.0 (u k))

    all_pairs : AllOf IsPair (in_order nodes i)
    all_pairs =
        let xs = binders_in (visits_of_item i) in let ks = nodes_of_form i.form in
        let bound = becomes a.0 b.0 (map (λ x. nodes + x) xs)
        (all_map (λ k. u k ≡ put a.0 (t k)) (λ x. nodes + x) xs (from_all (λ x. u (nodes + x) ≡ put a.0 (t (nodes + x))) xs a.2))
        (all_map (λ k. t k ≡ put b.0 (u k)) (λ x. nodes + x) xs (from_all (λ x. t (nodes + x) ≡ put b.0 (u (nodes + x))) xs b.2)) in
        all_both IsPair (own_node i.form) (ks ++ map (λ x. nodes + x) xs) (own IsPair i.form (pairs i a b)) (all_both IsPair ks (map (λ x. nodes + x) xs) (pairs i a b) bound)

    undone_at : (k : ℕ) → IsPair k → AllOf (IsUndone a.0 b.0) (variables_of (t k))
    undone_at k h = each_list (IsUndone a.0 b.0) (t k) (undone a.0 b.0 (t k) (ap (put b.0) (sym h.0) ∙ sym h.1))

    all_undone : (ks : List ℕ) → AllOf IsPair ks → AllOf (IsUndone a.0 b.0) (variables_at t ks)
    all_undone [] h = tt
    all_undone (k ∷ ks) h = all_both (IsUndone a.0 b.0) (variables_of (t k)) (variables_at t ks) (undone_at k h.0) (all_undone ks h.1)

    others_are : (ks : List ℕ) → AllOf IsPair ks → variables_at u ks ≡ map (λ x. name_of (a.0 x)) (variables_at t ks)
    others_are [] h = refl
    others_are (k ∷ ks) h =
        ap₂ (λ (xs : List ℕ) (ys : List ℕ). xs ++ ys)
        (ap variables_of h.0.0 ∙ variables_put a.0 b.0 (t k) (list_each (IsUndone a.0 b.0) (t k) (undone_at k h.0))) (others_are ks h.1)
        ∙ sym (map-append (λ x. name_of (a.0 x)) (variables_of (t k)) (variables_at t ks))

    all_same : (ks : List ℕ) → AllOf IsPair ks → AllOf (λ x. a.0 x ≡ ml.var x) (variables_at t ks) → AllOf (λ k. t k ≡ u k) ks
    all_same [] h l = tt
    all_same (k ∷ ks) h l =
        let stay = λ (x : ℕ). a.0 x ≡ ml.var x in
        let own_leave = list_each stay (t k) (all_left stay (variables_of (t k)) (variables_at t ks) l) in
        (sym (h.0.0 ∙ leaves_stay a.0 (t k) own_leave), all_same ks h.1 (all_right stay (variables_of (t k)) (variables_at t ks) l))

    pub item_same : IsNumbered nodes t i → IsNumbered nodes u i → AreSameIn nodes t u i
    item_same n m =
        let xs = binders_in (visits_of_item i) in let ks = nodes_of_form i.form in let all = in_order nodes i in
        let stay = numbered_stay a.0 b.0 0 (variables_at t all) (all_undone all all_pairs) n (subst (AreNumbered 0) (others_are all all_pairs) m) (λ z less. absurd (omega (arith, less))) in
        let same = all_right (λ k. t k ≡ u k) (own_node i.form) (ks ++ map (λ x. nodes + x) xs) (all_same all all_pairs stay) in (
          to_all (λ k. t k ≡ u k) ks (all_left (λ k. t k ≡ u k) ks (map (λ x. nodes + x) xs) same),
          to_all (λ x. t (nodes + x) ≡ u (nodes + x)) xs (map_all (λ k. t k ≡ u k) (λ x. nodes + x) xs (all_right (λ k. t k ≡ u k) ks (map (λ x. nodes + x) xs) same)),
        )

  items_same : (is : List ItemTree) → AllOf (IsItemInstance nodes t u) is → AllOf (IsItemInstance nodes u t) is → AllOf (IsNumbered nodes t) is
      → AllOf (IsNumbered nodes u) is
      → AllOf (AreSameIn nodes t u) is
  items_same [] a b n m = tt
  items_same (i ∷ is) a b n m = (item_same i a.0 b.0 n.0 m.0, items_same is a.1 b.1 n.1 m.1)

-- the nodes with their places are those that are left
placed_all : (P : ℕ → Type 0) (us : List Visit) → AllOf P (left_in us) → AllOf (λ (n : ℕ × Place). P n.0) (placed_in us)
placed_all P [] h = tt
placed_all P (enter_item i ∷ us) h = placed_all P us h
placed_all P (leave_item i ∷ us) h = placed_all P us h
placed_all P (enter e ∷ us) h = placed_all P us h
placed_all P (leave (tree k p f) ∷ us) h = (h.0, placed_all P us h.1)
placed_all P (leave_function r ∷ us) h = (h.0, placed_all P us h.1)
placed_all P (declare q ∷ us) h = placed_all P us h
placed_all P (show q ∷ us) h = placed_all P us h
placed_all P (hide q ∷ us) h = placed_all P us h
placed_all P (show_name x ∷ us) h = placed_all P us h
placed_all P (hide_name x ∷ us) h = placed_all P us h

-- ---- answers

module _ (s : Scoping) (scoped : IsScoped s) where
  module _ (t u : ℕ → MlType) (a : IsPrincipalAnnotation s t) (b : IsPrincipalAnnotation s u) where
    to_other : AllOf (IsItemInstance (node_count s) t u) s.items
    to_other = from_all (IsItemInstance (node_count s) t u) s.items (a.general u b.obeys)

    from_other : AllOf (IsItemInstance (node_count s) u t) s.items
    from_other = from_all (IsItemInstance (node_count s) u t) s.items (b.general t a.obeys)

    weak_are : first_weak t s.items ≡ first_weak u s.items
    weak_are = first_weak_same (node_count s) t u s.items (all_alike (node_count s) t u s.items to_other from_other)

    past_are : first_past t (placed_in (visits_of_items s.items)) ≡ first_past u (placed_in (visits_of_items s.items))
    past_are =
        let alike = λ (k : ℕ). Alike (t k) (u k) in let vs = visits_of_items s.items in
        let all = all_nodes (node_count s) t u s.items (all_alike (node_count s) t u s.items to_other from_other) in
        first_past_same (node_count s) t u (placed_in vs) (placed_all alike vs (subst (AllOf alike) (sym (items_left s.items)) all))

    types_are : All (IsNumbered (node_count s) t) s.items → All (IsNumbered (node_count s) u) s.items → All (AreSameIn (node_count s) t u) s.items
    types_are n m =
        let nodes = node_count s in
        to_all (AreSameIn nodes t u) s.items
        (items_same nodes t u s.items to_other from_other (from_all (IsNumbered nodes t) s.items n) (from_all (IsNumbered nodes u) s.items m))

    past_at : {p q : Place} {n m : ℕ} → first_past t (placed_in (visits_of_items s.items)) ≡ Some (p, n)
        → first_past u (placed_in (visits_of_items s.items)) ≡ Some (q, m)
        → (p ≡ q) × (n ≡ m)
    past_at {p = p} {n = n} h l = let same = ap (some_of (p, n)) (sym h ∙ past_are ∙ l) in (ap (λ (x : Place × ℕ). x.0) same, ap (λ (x : Place × ℕ). x.1) same)

  pub one_inference : (a b : Answer) → IsInference s a → IsInference s b → AreSame s a b
  one_inference (typed t) (typed u) a b = types_are t u a.0 b.0 a.3 b.3
  one_inference (typed t) (ill_typed q) a b = typed_not_ill s scoped t a.0.obeys q b
  one_inference (typed t) (weak q) a b = not_there (sym a.1 ∙ weak_are t b.0 a.0 b.1 ∙ b.2)
  one_inference (typed t) (past q m) a b = not_there (sym a.2 ∙ past_are t b.0 a.0 b.1 ∙ b.3)
  one_inference (ill_typed p) (typed u) a b = typed_not_ill s scoped u b.0.obeys p a
  one_inference (ill_typed p) (ill_typed q) a b = ill_same s p q a b
  one_inference (ill_typed p) (weak q) a b = typed_not_ill s scoped b.0 b.1.obeys p a
  one_inference (ill_typed p) (past q m) a b = typed_not_ill s scoped b.0 b.1.obeys p a
  one_inference (weak p) (typed u) a b = not_there (sym b.1 ∙ weak_are u a.0 b.0 a.1 ∙ a.2)
  one_inference (weak p) (ill_typed q) a b = typed_not_ill s scoped a.0 a.1.obeys q b
  one_inference (weak p) (weak q) a b = ap (some_of p) (sym a.2 ∙ weak_are a.0 b.0 a.1 b.1 ∙ b.2)
  one_inference (weak p) (past q m) a b = not_there (sym b.2 ∙ weak_are b.0 a.0 b.1 a.1 ∙ a.2)
  one_inference (past p n) (typed u) a b = not_there (sym b.2 ∙ past_are u a.0 b.0 a.1 ∙ a.3)
  one_inference (past p n) (ill_typed q) a b = typed_not_ill s scoped a.0 a.1.obeys q b
  one_inference (past p n) (weak q) a b = not_there (sym a.2 ∙ weak_are a.0 b.0 a.1 b.1 ∙ b.2)
  one_inference (past p n) (past q m) a b = past_at a.0 b.0 a.1 b.1 a.3 b.3
