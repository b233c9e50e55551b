-- The first definition that is weak, and the first type that is too large, one after another.
use Rattle.std.specs.Option.{option_map, is_some}
use Rattle.std.specs.Prelude.{All, nat_lt, if◌then◌else◌, slice_index_or}
use Rattle.std.proofs.Common.{◌≡◌, ℕ, zero, suc, ◌+◌, ◌<◌, ◌≤◌, Bool, true, false, List, [], ◌∷◌, ◌++◌, length, map, drop, drop-cons, get_or, Option, Some, None, refl, sym, ap, subst, ◌∙◌, arith}
use Rattle.std.proofs.lemmas.Bool.{lt-ltb, le-ltb, false≢true}
use Rattle.std.proofs.lemmas.List.{length-map}
use Rattle.std.proofs.lemmas.Option.{none-some}
use Rattle.lq_base_names.specs.declared.name.Binder.{Binder}
use Rattle.lq_base_names.specs.declared.place.Place.{Place}
use Rattle.lq_text_tree.specs.Items.{ItemTree, item_view, items_view}
use Rattle.lq_text_tree.specs.MlType.{MlType}
use Rattle.lq_text_tree.specs.declared.item.Item.{Item}
use Rattle.lq_text_walk.specs.Walk.Visits.{Visit, leave_item, visits_of_form, visits_of_item, visits_of_items}
use Rattle.lq_types_rules.specs.Constructors.Tasks.{size_of}
use Rattle.lq_types_rules.specs.Equations.Gathered.{VisitIn}
use Rattle.lq_types_rules.specs.Equations.Within.{ItemIn}
use Rattle.lq_types_table.specs.Nodes.{at}
use Rattle.lq_types_rules.specs.Typings.Principal.{is_weak, weak_place, first_weak, counted, first_past, placed_at, placed_in}
use Rattle.lq_types_infer.specs.Annotation.Refusing.{large_view}
use Rattle.lq_types_infer.specs.Annotation.Slots.{slot_types}
use Rattle.lq_types_infer.specs.declared.annotation.refusals.Large.{Large}
use Rattle.lq_types_infer.proofs.AnnotationLemmas.Types.{from_all, to_all, left_part, right_part}

-- ---- definitions

-- what is left of the items has what is looked for, and is in range
pub record WeakLeft (nodes n : ℕ) (types : ℕ → MlType) (all rest : List ItemTree) : Type 0 where
  pub same : first_weak types rest ≡ first_weak types all
  pub ranges : All (VisitIn nodes n) (visits_of_items rest)

abbrev pub views : List (Item Binder) → List ItemTree
views = items_view Binder (λ b. b.0)

abbrev pub view : Item Binder → ItemTree
view = item_view Binder (λ b. b.0)

pub rest_is : (items : List (Item Binder)) (k : ℕ) (x : Item Binder) → k < length items → x ≡ get_or items k x
    → views (drop k items) ≡ view x ∷ views (drop (suc k) items)
rest_is items k x low is = ap views (drop-cons items k x low ∙ ap (λ (y : Item Binder). y ∷ drop (suc k) items) (sym is))

pub rest_behind : (items : List (Item Binder)) (k : ℕ) (x : Item Binder) → k < length items → x ≡ get_or items k x
    → views (drop k items) ≡ view x ∷ views (drop (k + 1) items)
rest_behind items k x low is =
    let e : suc k ≡ k + 1 = omega arith in
    subst (λ (m : ℕ). views (drop k items) ≡ view x ∷ views (drop m items)) e (rest_is items k x low is)

module _ (nodes n : ℕ) where
  split_ranges : (i : ItemTree) (is : List ItemTree) → All (VisitIn nodes n) (visits_of_items (i ∷ is))
      → ItemIn nodes n i.form × All (VisitIn nodes n) (visits_of_items is)
  split_ranges i is h =
      let all = from_all (VisitIn nodes n) (visits_of_items (i ∷ is)) h in
      let own = (left_part (VisitIn nodes n) (visits_of_item i) (visits_of_items is) all).1 in (
        (right_part (VisitIn nodes n) (visits_of_form i.form) (leave_item i ∷ []) own).0,
        to_all (VisitIn nodes n) (visits_of_items is) (right_part (VisitIn nodes n) (visits_of_item i) (visits_of_items is) all),
      )

  module _ (types : ℕ → MlType) (all : List ItemTree) where
    pub weak_start : (rest : List ItemTree) → rest ≡ all → All (VisitIn nodes n) (visits_of_items all) → WeakLeft nodes n types all rest
    weak_start rest e ranges = record {
      same = ap (first_weak types) e;
      ranges = subst (λ r. All (VisitIn nodes n) (visits_of_items r)) (sym e) ranges;
    }

    pub weak_in : (rest : List ItemTree) (i : ItemTree) (is : List ItemTree) → rest ≡ i ∷ is → WeakLeft nodes n types all rest → ItemIn nodes n i.form
    weak_in rest i is e h = (split_ranges i is (subst (λ r. All (VisitIn nodes n) (visits_of_items r)) e h.ranges)).0

    pub weak_next : (rest : List ItemTree) (i : ItemTree) (is : List ItemTree) → rest ≡ i ∷ is → WeakLeft nodes n types all rest
        → is_weak types i.form ≡ false
        → WeakLeft nodes n types all is
    weak_next rest i is e h no_weak = record {
      same =
          sym (ap (λ (b : Bool). if b then Some (weak_place i.form i.place) else first_weak types is) no_weak) ∙ sym
          (ap (first_weak types) e) ∙ h.same;
      ranges = (split_ranges i is (subst (λ r. All (VisitIn nodes n) (visits_of_items r)) e h.ranges)).1;
    }

    pub weak_here : (rest : List ItemTree) (i : ItemTree) (is : List ItemTree) → rest ≡ i ∷ is → WeakLeft nodes n types all rest
        → is_weak types i.form ≡ true
        → Some (weak_place i.form i.place) ≡ first_weak types all
    weak_here rest i is e h weak_it =
        sym (ap (λ (b : Bool). if b then Some (weak_place i.form i.place) else first_weak types is) weak_it) ∙ sym (ap (first_weak types) e) ∙ h.same

-- ---- sizes

pub map_at : {A : Type 0} (h : MlType → A) (d : A) (all : List MlType) (r : ℕ) → r < length (map h all)
    → slice_index_or (map h all) r d ≡ h (at all r)
map_at h d [] r low = absurd (omega (arith, low))
map_at h d (a ∷ as_) zero low = refl
map_at h d (a ∷ as_) (suc r) low = map_at h d as_ r (omega (arith, low))

past_one : (types : ℕ → MlType) (ns ms : List (ℕ × Place)) (x : Place × ℕ) (b : Bool)
    → (first_past types ns ≡ None → first_past types (ns ++ ms) ≡ first_past types ms)
    → (if b then Some x else first_past types ns) ≡ None → (if b then Some x else first_past types (ns ++ ms)) ≡ first_past types ms
past_one types ns ms x true rest h = absurd (none-some x (sym h))
past_one types ns ms x false rest h = rest h

pub past_none : (types : ℕ → MlType) (ns ms : List (ℕ × Place)) → first_past types ns ≡ None → first_past types (ns ++ ms) ≡ first_past types ms
past_none types [] ms h = refl
past_none types (n ∷ ns) ms h = past_one types ns ms (n.1, counted (types n.0)) (nat_lt 2000 (size_of (types n.0))) (past_none types ns ms) h

past_first : (types : ℕ → MlType) (ns ms : List (ℕ × Place)) (x y : Place × ℕ) (b : Bool)
    → (first_past types ns ≡ Some y → first_past types (ns ++ ms) ≡ Some y)
    → (if b then Some x else first_past types ns) ≡ Some y → (if b then Some x else first_past types (ns ++ ms)) ≡ Some y
past_first types ns ms x y true rest h = h
past_first types ns ms x y false rest h = rest h

pub past_some : (types : ℕ → MlType) (ns ms : List (ℕ × Place)) (y : Place × ℕ) → first_past types ns ≡ Some y → first_past types (ns ++ ms) ≡ Some y
past_some types [] ms y h = absurd (none-some y h)
past_some types (n ∷ ns) ms y h = past_first types ns ms (n.1, counted (types n.0)) y (nat_lt 2000 (size_of (types n.0))) (past_some types ns ms y) h

module _ (all : List MlType) (rows : List ℕ) (slot : ℕ) (place : Place) (size : ℕ) (is : size ≡ counted (slot_types all rows slot)) where
  pub large_is : 2000 < size → Some (place, size) ≡ first_past (slot_types all rows) ((slot, place) ∷ [])
  large_is big =
      let a = slot_types all rows slot in
      let more_of : 2000 < size_of a = omega (arith, is, big) in
      ap (λ (m : ℕ). Some (place, m)) is ∙ sym (ap (λ (b : Bool). if b then Some (place, counted a) else None) (lt-ltb 2000 (size_of a) more_of))

  pub small_is : size ≤ 2000 → None ≡ first_past (slot_types all rows) ((slot, place) ∷ [])
  small_is small =
      let a = slot_types all rows slot in
      let fewer : size_of a ≤ 2000 = omega (arith, is, small) in
      sym (ap (λ (b : Bool). if b then Some (place, counted a) else None) (le-ltb 2000 (size_of a) fewer))

-- what is left of a walk has what is looked for, and is in range
pub record LargeLeft (nodes n : ℕ) (types : ℕ → MlType) (all rest : List Visit) : Type 0 where
  pub same : first_past types (placed_in rest) ≡ first_past types (placed_in all)
  pub ranges : All (VisitIn nodes n) rest

module _ (nodes n : ℕ) (types : ℕ → MlType) (all rest : List Visit) (v : Visit) (vs : List Visit) (e : rest ≡ v ∷ vs)
    (h : LargeLeft nodes n types all rest) where
  in_left : VisitIn nodes n v × All (VisitIn nodes n) vs
  in_left =
      let both = from_all (VisitIn nodes n) (v ∷ vs) (subst (All (VisitIn nodes n)) e h.ranges) in (both.0, to_all (VisitIn nodes n) vs both.1)

  pub large_in : VisitIn nodes n v
  large_in = in_left.0

  pub large_next : first_past types (placed_at v) ≡ None → LargeLeft nodes n types all vs
  large_next none = record {
    same = sym (past_none types (placed_at v) (placed_in vs) none) ∙ sym (ap (λ (us : List Visit). first_past types (placed_in us)) e) ∙ h.same;
    ranges = in_left.1;
  }

  pub large_here : (y : Place × ℕ) → first_past types (placed_at v) ≡ Some y → Some y ≡ first_past types (placed_in all)
  large_here y is = sym (past_some types (placed_at v) (placed_in vs) y is) ∙ sym
      (ap (λ (us : List Visit). first_past types (placed_in us)) e) ∙ h.same

pub large_start : (nodes n : ℕ) (types : ℕ → MlType) (all rest : List Visit) → rest ≡ all → All (VisitIn nodes n) all → LargeLeft nodes n types all rest
large_start nodes n types all rest e ranges = record {
  same = ap (λ (vs : List Visit). first_past types (placed_in vs)) e;
  ranges = subst (All (VisitIn nodes n)) (sym e) ranges;
}

-- what is not there is none
pub none_of : (o : Option Large) (x : Option (Place × ℕ)) → is_some o ≡ false → option_map large_view o ≡ x → x ≡ None
none_of None x e h = sym h
none_of (Some l) x e h = absurd (false≢true (sym e))

-- numbers of types are those of what is told of them
pub measured_rows : {A : Type 0} (h : MlType → A) (all : List MlType) (rows : List ℕ) (ms : List A) → ms ≡ map h all
    → All (λ r. r < length all) rows → All (λ r. r < length ms) rows
measured_rows h all rows ms is inside =
    let same : length ms ≡ length all = ap length is ∙ length-map all h in
    subst (λ (n : ℕ). All (λ r. r < n) rows) (sym same) inside
