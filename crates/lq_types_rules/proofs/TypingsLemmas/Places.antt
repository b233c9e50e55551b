-- A visit of a program is one of an item, at a place of its own.
use Rattle.std.proofs.Common.{◌≡◌, ℕ, Bool, true, false, suc, ◌+◌, ◌<◌, List, [], ◌∷◌, ◌++◌, length, Option, Some, None, refl, sym, ap, ap₂, subst, ◌∙◌, arith, append_assoc, length-append}
use Rattle.std.proofs.lemmas.Bool.{false≢true}
use Rattle.std.proofs.lemmas.List.{append-nil}
use Rattle.lq_base_names.specs.declared.place.Place.{Place}
use Rattle.lq_text_tree.specs.Items.{ItemTree}
use Rattle.lq_text_tree.specs.Tree.{tree}
use Rattle.lq_text_tree.specs.TypingRules.{Every}
use Rattle.lq_text_walk.specs.Walk.Visits.{Visit, enter_item, leave_item, enter, leave, leave_function, declare, show, hide, show_name, hide_name, visits_of_form, visits_of_item, visits_of_items}
use Rattle.lq_text_walk.specs.Scoped.Scoping.{Scoping, IsScoped}
use Rattle.lq_text_walk.specs.Scoped.Signature.{signature_in}
use Rattle.lq_types_rules.specs.Equations.Rows.{annotation_of}
use Rattle.lq_types_rules.specs.Typings.Uses.{none_known}
use Rattle.lq_types_rules.specs.Typings.Fronts.{NodesAre, left_at, left_in}
use Rattle.lq_types_rules.specs.Typings.Inference.{place_at, IsUpTo, IsIllTyped}
use Rattle.lq_types_rules.specs.Typings.Laws.{front_of}
use Rattle.lq_types_rules.specs.Typings.Places.{HoldAt, IsFirstPlace, node, item}
use Rattle.lq_types_rules.specs.Typings.Principal.{node_count, placed_at, placed_in}
use Rattle.lq_types_rules.proofs.TypingsLemmas.Fronts.{front_items_are_rules, fronts_are_rules, after_back, place_back, same_program, left_follow}
use Rattle.lq_types_rules.proofs.TypingsLemmas.Leaving.{left_append}
use Rattle.lq_types_rules.proofs.TypingsLemmas.Lists.{AllOf, all_right}
use Rattle.lq_types_rules.proofs.TypingsLemmas.Numbers.{Follow}
use Rattle.lq_types_rules.proofs.TypingsLemmas.Programs.{state_back}
use Rattle.lq_types_rules.proofs.TypingsLemmas.Trees.{Inner, nodes_go}

-- ---- lists

abbrev pub head_of : {A : Type 0} → A → List A → A
head_of d [] = d
head_of d (x ∷ xs) = x

abbrev pub tail_of : {A : Type 0} → List A → List A
tail_of [] = []
tail_of (x ∷ xs) = xs

-- an element of two lists stands in the first or in the second
pub data IsCut {A : Type 0} (xs ys front : List A) (v : A) (later : List A) : Type 0 where
  in_first : (ws : List A) → xs ≡ front ++ v ∷ ws → IsCut xs ys front v later
  in_rest : (us : List A) → front ≡ xs ++ us → ys ≡ us ++ v ∷ later → IsCut xs ys front v later

cut_more : {A : Type 0} (x f v : A) (xs ys fs later : List A) → x ≡ f → IsCut xs ys fs v later → IsCut (x ∷ xs) ys (f ∷ fs) v later
cut_more x f v xs ys fs later same (in_first ws e) = in_first ws (ap₂ (λ (a : _) (as_ : List _). a ∷ as_) same e)
cut_more x f v xs ys fs later same (in_rest us e rest) = in_rest us (ap₂ (λ (a : _) (as_ : List _). a ∷ as_) (sym same) e) rest

pub cut_of : {A : Type 0} (xs ys front : List A) (v : A) (later : List A) → xs ++ ys ≡ front ++ v ∷ later → IsCut xs ys front v later
cut_of [] ys front v later e = in_rest front refl e
cut_of (x ∷ xs) ys [] v later e = in_first xs (ap (λ z. z ∷ xs) (ap (head_of x) e))
cut_of (x ∷ xs) ys (f ∷ fs) v later e = cut_more x f v xs ys fs later (ap (head_of x) e) (cut_of xs ys fs v later (ap tail_of e))

nothing_there : {A : Type 0} (front : List A) (v : A) (later : List A) → [] ≡ front ++ v ∷ later → ⊥
nothing_there [] v later e = let long = ap length e in omega (arith, long)
nothing_there (f ∷ fs) v later e = let long = ap length e in omega (arith, long)

abbrev has : {A : Type 0} → Option A → Bool
has None = false
has (Some x) = true

abbrev pub some_of : {A : Type 0} → A → Option A → A
some_of d None = d
some_of d (Some x) = x

pub not_there : {A : Type 0} {x : A} → None ≡ Some x → ⊥
not_there e = false≢true (ap has e)

all_every : (xs : List ℕ) → AllOf Every xs
all_every [] = tt
all_every (x ∷ xs) = (tt, all_every xs)

-- the visits of items and of one more
item_visits : (before : List ItemTree) (i : ItemTree)
    → visits_of_items (before ++ i ∷ []) ≡ front_of before i (visits_of_form i.form) ++ leave_item i ∷ []
item_visits [] i = append-nil (visits_of_item i)
item_visits (j ∷ before) i =
    ap (λ (xs : List Visit). visits_of_item j ++ xs) (item_visits before i)
    ∙ sym (append_assoc (visits_of_item j) (front_of before i (visits_of_form i.form)) (leave_item i ∷ []))
    ∙ ap (λ (xs : List Visit). xs ++ leave_item i ∷ []) (sym (append_assoc (visits_of_item j) (visits_of_items before) (enter_item i ∷ visits_of_form i.form)))

-- ---- where a visit of a program stands

data IsAt (is : List ItemTree) (front : List Visit) (v : Visit) : Type 0 where
  entering : (before rest : List ItemTree) (i : ItemTree) → v ≡ enter_item i → IsAt is front v
  inside : (before rest : List ItemTree) (i : ItemTree) (us ws : List Visit) → is ≡ before ++ i ∷ rest → visits_of_form i.form ≡ us ++ v ∷ ws
      → front ≡ front_of before i us → IsAt is front v
  leaving : (before rest : List ItemTree) (i : ItemTree) → is ≡ before ++ i ∷ rest → front ≡ front_of before i (visits_of_form i.form)
      → v ≡ leave_item i → IsAt is front v

at_end : (i : ItemTree) (is : List ItemTree) (us fs ws : List Visit) (v : Visit) → fs ≡ visits_of_form i.form ++ us
    → leave_item i ∷ [] ≡ us ++ v ∷ ws → IsAt (i ∷ is) (enter_item i ∷ fs) v
at_end i is [] fs ws v same e = leaving [] is i refl (ap (λ xs. enter_item i ∷ xs) (same ∙ append-nil (visits_of_form i.form))) (sym (ap (head_of v) e))
at_end i is (u ∷ us) fs ws v same e = absurd (nothing_there us v ws (ap tail_of e))

in_item : (i : ItemTree) (is : List ItemTree) (fs ws : List Visit) (v : Visit) → IsCut (visits_of_form i.form) (leave_item i ∷ []) fs v ws
    → IsAt (i ∷ is) (enter_item i ∷ fs) v
in_item i is fs ws v (in_first later e) = inside [] is i fs later refl e refl
in_item i is fs ws v (in_rest us e rest) = at_end i is us fs ws v e rest

own_at : (i : ItemTree) (is : List ItemTree) (front ws : List Visit) (v : Visit) → visits_of_item i ≡ front ++ v ∷ ws → IsAt (i ∷ is) front v
own_at i is [] ws v e = entering [] is i (sym (ap (head_of v) e))
own_at i is (f ∷ fs) ws v e =
    subst (λ u. IsAt (i ∷ is) (u ∷ fs) v) (ap (head_of f) e) (in_item i is fs ws v (cut_of (visits_of_form i.form) (leave_item i ∷ []) fs v ws (ap tail_of e)))

front_more : (i j : ItemTree) (before : List ItemTree) (us : List Visit) → visits_of_item i ++ front_of before j us ≡ front_of (i ∷ before) j us
front_more i j before us = sym (append_assoc (visits_of_item i) (visits_of_items before) (enter_item j ∷ us))

later_at : (i : ItemTree) (is : List ItemTree) (us : List Visit) (v : Visit) → IsAt is us v → IsAt (i ∷ is) (visits_of_item i ++ us) v
later_at i is us v (entering before rest j e) = entering (i ∷ before) rest j e
later_at i is us v (inside before rest j xs ws split own front) =
    inside (i ∷ before) rest j xs ws (ap (λ ks. i ∷ ks) split) own (ap (λ ys. visits_of_item i ++ ys) front ∙ front_more i j before xs)
later_at i is us v (leaving before rest j split front e) =
    leaving (i ∷ before) rest j (ap (λ ks. i ∷ ks) split) (ap (λ ys. visits_of_item i ++ ys) front ∙ front_more i j before (visits_of_form j.form)) e

located : (is : List ItemTree) (front later : List Visit) (v : Visit) → visits_of_items is ≡ front ++ v ∷ later → IsAt is front v
located [] front later v e = absurd (nothing_there front v later e)
located (i ∷ is) front later v e = elim (cut_of (visits_of_item i) (visits_of_items is) front v later e) [
  | in_first ws own ↦ own_at i is front ws v own
  | in_rest us same rest ↦ subst (λ xs. IsAt (i ∷ is) xs v) (sym same) (later_at i is us v (located is us later v rest))
]

-- ---- a node

placed_append : (us vs : List Visit) → placed_in (us ++ vs) ≡ placed_in us ++ placed_in vs
placed_append [] vs = refl
placed_append (u ∷ us) vs = ap (λ (xs : List (ℕ × Place)). placed_at u ++ xs) (placed_append us vs) ∙ sym (append_assoc (placed_at u) (placed_in us) (placed_in vs))

at_head : (n k : ℕ) (xs ys : List ℕ) → Follow n (xs ++ k ∷ ys) → k ≡ n + length xs
at_head n k [] ys h = let first = h.0 in omega (arith, first)
at_head n k (x ∷ xs) ys h = let more_of = at_head (suc n) k xs ys h.1 in omega (arith, more_of)

-- what stands before one more visit
one_more : (before : List ItemTree) (i : ItemTree) (us : List Visit) (v : Visit) → front_of before i (us ++ v ∷ []) ≡ front_of before i us ++ v ∷ []
one_more before i us v = sym (append_assoc (visits_of_items before) (enter_item i ∷ us) (v ∷ []))

module _ (s : Scoping) (place : Place) (scoped : IsScoped s) (ill : IsIllTyped s place) where
  node_first : (before rest : List ItemTree) (i : ItemTree) (us ws : List Visit) (k : ℕ) → s.items ≡ before ++ i ∷ rest
      → visits_of_form i.form ≡ us ++ ill.visit ∷ ws
      → ill.front ≡ front_of before i us → left_at ill.visit ≡ k ∷ [] → placed_at ill.visit ≡ (k, place) ∷ [] → IsFirstPlace s place
  node_first before rest i us ws k split own front left placed =
      let g = signature_in s.datatypes in let nodes = node_count s in
      let v = ill.visit in
      let m = length (left_in (front_of before i us)) in
      let types = ill.can.0 in
      let all : left_in (visits_of_items s.items) ≡ left_in ill.front ++ k ∷ left_in ill.later =
      ap left_in ill.split ∙ left_append ill.front (v ∷ ill.later) ∙ ap (λ (xs : List ℕ). left_in ill.front ++ (xs ++ left_in ill.later)) left in
      let at : k ≡ length (left_in ill.front) =
      let h = at_head 0 k (left_in ill.front) (left_in ill.later) (subst (Follow 0) all (left_follow s scoped)) in omega (arith, h) in
      let same : k ≡ m = at ∙ ap (λ xs. length (left_in xs)) front in
      let long : length (left_in (front_of before i (us ++ v ∷ []))) ≡ suc k =
      let e = ap (λ xs. length (left_in xs)) (one_more before i us v) in
      let e2 = ap length (left_append (front_of before i us) (v ∷ [])) in
      let e3 = ap (λ (xs : List ℕ). length (left_in (front_of before i us) ++ (xs ++ []))) left in
      let e4 = length-append (left_in (front_of before i us)) (k ∷ []) in
      omega (arith, e, e2, e3, e4, same) in
      let here = fronts_are_rules g nodes types s scoped before rest i split us (v ∷ ws) own in
      let then_own : visits_of_form i.form ≡ (us ++ v ∷ []) ++ ws = own ∙ sym (append_assoc us (v ∷ []) ws) in
      node before rest i k (placed_in us) (placed_in ws) split
      (ap placed_in own ∙ placed_append us (v ∷ ws) ∙ ap (λ (xs : List (ℕ × Place)). placed_in us ++ (xs ++ placed_in ws)) placed) types
      (subst (λ o. HoldAt s before i (λ j. j < o) types) (sym same) (here.nodes_obey (subst (λ xs. IsUpTo s xs types) front ill.can.1)))
      (λ others h.
      let there = fronts_are_rules g nodes others s scoped before rest i split (us ++ v ∷ []) ws then_own in
      ill.cannot others
      (subst (λ xs. IsUpTo s xs others) (one_more before i us v ∙ ap (λ xs. xs ++ v ∷ []) (sym front))
      (there.visits_obey (subst (λ o. HoldAt s before i (λ j. j < o) others) (sym long) h))))

  -- the visit's place is this one
  placed : (v : Visit) → ill.visit ≡ v → place_at v ≡ Some place
  placed v same = ap place_at (sym same) ∙ ill.there

  node_here : (before rest : List ItemTree) (i : ItemTree) (us ws : List Visit) → s.items ≡ before ++ i ∷ rest
      → visits_of_form i.form ≡ us ++ ill.visit ∷ ws
      → ill.front ≡ front_of before i us → (v : Visit) → ill.visit ≡ v → Inner v → IsFirstPlace s place
  node_here before rest i us ws split own front (enter_item j) same inner = absurd inner
  node_here before rest i us ws split own front (leave_item j) same inner = absurd inner
  node_here before rest i us ws split own front (enter e) same inner = absurd (not_there (placed (enter e) same))
  node_here before rest i us ws split own front (leave (tree k p f)) same inner =
      node_first before rest i us ws k split own front (ap left_at same) (ap placed_at same ∙ ap (λ q. (k, q) ∷ []) (ap (some_of p) (placed (leave (tree k p f)) same)))
  node_here before rest i us ws split own front (leave_function r) same inner =
      node_first before rest i us ws r.id split own front (ap left_at same) (ap placed_at same ∙ ap (λ q. (r.id, q) ∷ []) (ap (some_of r.place) (placed (leave_function r) same)))
  node_here before rest i us ws split own front (declare q) same inner = absurd (not_there (placed (declare q) same))
  node_here before rest i us ws split own front (show q) same inner = absurd (not_there (placed (show q) same))
  node_here before rest i us ws split own front (hide q) same inner = absurd (not_there (placed (hide q) same))
  node_here before rest i us ws split own front (show_name x) same inner = absurd (not_there (placed (show_name x) same))
  node_here before rest i us ws split own front (hide_name x) same inner = absurd (not_there (placed (hide_name x) same))

  item_here : (before rest : List ItemTree) (i : ItemTree) → s.items ≡ before ++ i ∷ rest → ill.front ≡ front_of before i (visits_of_form i.form)
      → ill.visit ≡ leave_item i → IsFirstPlace s place
  item_here before rest i split front same =
      let g = signature_in s.datatypes in let nodes = node_count s in let types = ill.can.0 in let us = visits_of_form i.form in
      let whole = same_program s (before ++ i ∷ rest) split scoped in
      let obeys = subst (λ xs. IsUpTo s xs types) front ill.can.1 in
      let holds : HoldAt s before i Every types =
      after_back g nodes types before (i ∷ rest) (enter_item i ∷ us) (λ ns. NodesAre g (annotation_of nodes types) Every ns i.form) none_known [] [] 0 (state_back g nodes types)
      whole.0 whole.1 obeys (place_back g nodes types Every i rest us [] (sym (append-nil us)) (all_every (left_in us)) tt) in
      item before rest i split (ap (some_of i.place) (placed (leave_item i) same)) types holds
      (λ others h.
      let all = (front_items_are_rules g nodes others s scoped (before ++ i ∷ []) rest (split ∙ sym (append_assoc before (i ∷ []) rest))).visits_obey h in
      ill.cannot others
      (subst (λ xs. IsUpTo s xs others) (item_visits before i ∙ ap₂ (λ (xs : List Visit) (v : Visit). xs ++ v ∷ []) (sym front) (sym same)) all))

  first_at : IsAt s.items ill.front ill.visit → IsFirstPlace s place
  first_at (entering before rest i same) = absurd (not_there (placed (enter_item i) same))
  first_at (inside before rest i us ws split own front) =
      let g = signature_in s.datatypes in let nodes = node_count s in
      let inner = subst (AllOf Inner) own (nodes_go g nodes ill.can.0 Every none_known i.form).inner in
      node_here before rest i us ws split own front ill.visit refl (all_right Inner us (ill.visit ∷ ws) inner).0
  first_at (leaving before rest i split front same) = item_here before rest i split front same

pub ill_typed_places_are_first : (s : Scoping) (place : Place) → IsScoped s → IsIllTyped s place → IsFirstPlace s place
ill_typed_places_are_first s place scoped ill = first_at s place scoped ill (located s.items ill.front ill.later ill.visit ill.split)
