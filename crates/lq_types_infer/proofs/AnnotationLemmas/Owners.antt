-- The numbers of a program's variables, where each is of one item.
use Rattle.std.specs.List.{list_any}
use Rattle.std.specs.Prelude.{All, ◌==◌, slice_index_or}
use Rattle.std.proofs.Common.{◌≡◌, ℕ, zero, suc, ◌+◌, ◌<◌, List, [], ◌∷◌, ◌++◌, length, map, take, drop, Option, Some, refl, sym, ap, subst, ◌∙◌, arith}
use Rattle.std.proofs.lemmas.Bool.{or_left, or_right, eq-eqb}
use Rattle.std.proofs.lemmas.List.Elements.{All-get_or}
use Rattle.std.proofs.lemmas.Option.{none-some}
use Rattle.lq_base_names.specs.declared.name.Binder.{Binder}
use Rattle.lq_text_tree.specs.Items.{ItemTree, item_view, items_view}
use Rattle.lq_text_tree.specs.MlType as ml
use Rattle.lq_text_tree.specs.MlType.{MlType, MlTypes}
use Rattle.lq_text_tree.specs.declared.item.Item.{Item}
use Rattle.lq_text_walk.specs.Walk.Visits.{visits_of_item}
use Rattle.lq_text_walk.specs.Scoped.Numbers.{nodes_of_form, binders_in}
use Rattle.lq_text_walk.specs.Scoped.Scoping.{Scoping}
use Rattle.lq_types_rules.specs.Typings.Principal.{node_count, variables_of, variables_in, variables_at, own_node, in_order}
use Rattle.lq_types_rules.specs.Typings.Uses.{Each, EachIn}
use Rattle.lq_types_rules.specs.Visits.Laws.{slot_count, IsOf, OwnSlots}
use Rattle.lq_types_infer.specs.Annotation.Laws.{IsIn, AreVariablesApart}
use Rattle.lq_types_infer.specs.Annotation.Naming.{names_in, NumbersItem}
use Rattle.lq_types_infer.specs.Annotation.Numbering.{number_in, behind_items, numbers_from_zero, value_or_zero, with_numbers, AreUnnamed}
use Rattle.lq_types_infer.specs.Annotation.Slots.{slot_types, AreRows}
use Rattle.lq_types_infer.proofs.AnnotationLemmas.Numbers.{AreOf, Ready, items}
use Rattle.lq_types_infer.proofs.AnnotationLemmas.Types.{AllOf, from_all, to_all, all_both, all_at}

module _ (P Q : ℕ → Type 0) where
  weaker : ((x : ℕ) → P x → Q x) → (xs : List ℕ) → AllOf P xs → AllOf Q xs
  weaker f [] h = tt
  weaker f (x ∷ xs) h = (f x h.0, weaker f xs h.1)

-- each element is in the list
each_in : (xs : List ℕ) → AllOf (IsIn xs) xs
each_in [] = tt
each_in (x ∷ xs) = (
  or_left (x == x) (list_any (λ z. z == x) xs) (eq-eqb x x refl),
  weaker (IsIn xs) (IsIn (x ∷ xs))
      (λ y h. or_right (x == y) (list_any (λ z. z == y) xs) h) xs (each_in xs),
)

-- what holds of each variable of a type, as a list
module _ (P : ℕ → Type 0) where
  mutual
    each_list : (a : MlType) → Each P a → AllOf P (variables_of a)
    each_list ml.int h = tt
    each_list ml.bool h = tt
    each_list ml.unit h = tt
    each_list (ml.var i) h = (h, tt)
    each_list (ml.arrow a b) h = all_both P (variables_of a) (variables_of b) (each_list a h.0) (each_list b h.1)
    each_list (ml.tuple ts) h = each_lists ts h
    each_list (ml.array a) h = each_list a h
    each_list (ml.named d ts) h = each_lists ts h
    each_list (ml.map_of a) h = each_list a h

    each_lists : (ts : MlTypes) → EachIn P ts → AllOf P (variables_in ts)
    each_lists ml.no_types h = tt
    each_lists (ml.more_types t ts) h = all_both P (variables_of t) (variables_in ts) (each_list t h.0) (each_lists ts h.1)

-- ---- variables of slots

to_mapped : (P : ℕ → Type 0) (nodes : ℕ) (xs : List ℕ) → AllOf (λ x. P (nodes + x)) xs → AllOf P (map (λ x. nodes + x) xs)
to_mapped P nodes [] h = tt
to_mapped P nodes (x ∷ xs) h = (h.0, to_mapped P nodes xs h.1)

module _ (nodes slots : ℕ) (owner : ℕ → ℕ) (seen : ℕ → MlType) where
  -- a variable that stands in the type of a slot of the item
  abbrev pub Of : ℕ → ℕ → Type 0
  Of n v = (k : ℕ) × (k < slots) × (owner k ≡ n) × IsIn (variables_of (seen k)) v

  of_slot : (n k : ℕ) → IsOf slots owner n k → AllOf (Of n) (variables_of (seen k))
  of_slot n k o = let xs = variables_of (seen k) in weaker (IsIn xs) (Of n) (λ v h. (k, o.0, o.1, h)) xs (each_in xs)

  of_slots : (n : ℕ) (ks : List ℕ) → AllOf (IsOf slots owner n) ks → AllOf (Of n) (variables_at seen ks)
  of_slots n [] h = tt
  of_slots n (k ∷ ks) h = all_both (Of n) (variables_of (seen k)) (variables_at seen ks) (of_slot n k h.0) (of_slots n ks h.1)

  -- the slots of the first item are its own
  first_own : (n : ℕ) (i : ItemTree) (is : List ItemTree) → OwnSlots nodes slots owner n (i ∷ is)
      → AllOf (IsOf slots owner n) (in_order nodes i)
  first_own n i is own =
      let P : ℕ → Type 0 = IsOf slots owner n in
      let ks = nodes_of_form i.form in
      let xs = binders_in (visits_of_item i) in
      let binders = to_mapped P nodes xs (from_all (λ x. P (nodes + x)) xs own.1) in
      let rest = all_both P ks (map (λ x. nodes + x) xs) (from_all P ks own.0) binders in
      all_both P (own_node i.form) (ks ++ map (λ x. nodes + x) xs) (from_all P (own_node i.form) own.2) rest

  are_of : (n : ℕ) (is : List ItemTree) → OwnSlots nodes slots owner n is → AreOf Of nodes seen n is
  are_of n [] own = tt
  are_of n (i ∷ is) own = (of_slots n (in_order nodes i) (first_own n i is own), are_of (suc n) is own.3)

  -- so are those of each later one
  own_behind : (n : ℕ) (is : List ItemTree) → OwnSlots nodes slots owner n is → (k : ℕ) → (m : ℕ) × OwnSlots nodes slots owner m (drop k is)
  own_behind n is own zero = (n, own)
  own_behind n [] own (suc k) = (n, tt)
  own_behind n (i ∷ is) own (suc k) = own_behind (suc n) is own.3 k

value_at : (final : List (Option ℕ)) (v d k : ℕ) → number_in final v ≡ Some k → slice_index_or (map value_or_zero final) v d ≡ k
value_at [] v d k h = absurd (none-some k h)
value_at (o ∷ os) zero d k h = ap value_or_zero h
value_at (o ∷ os) (suc v) d k h = value_at os v d k h

-- numbers that are given one after another, where no variable is of two items
pub numbers_are : (s : Scoping) (all : List MlType) (rows : List ℕ) (owner : ℕ → ℕ) → OwnSlots (node_count s) (slot_count s) owner 0 s.items
    → AreVariablesApart s (slot_types all rows) owner → AreRows all rows (slot_count s) → (first : List (Option ℕ)) → AreUnnamed all first
    → All (NumbersItem (node_count s) (slot_types all rows)
    (names_in (map value_or_zero (behind_items (node_count s) (slot_types all rows) first s.items)))) s.items
numbers_are s all rows owner own apart are first none =
    let nodes = node_count s in
    let slots = slot_count s in
    let seen = slot_types all rows in
    let final = behind_items nodes seen first s.items in
    let f = names_in (map value_or_zero final) in
    let OfItem : ℕ → ℕ → Type 0 = Of nodes slots owner seen in
    let differ : (n m v : ℕ) → OfItem n v → OfItem m v → n ≡ m = λ n m v a b. sym a.2 ∙ apart a.0 b.0 v a.1 b.1 a.3 b.3 ∙ b.2 in
    let ready : Ready OfItem nodes seen differ 0 first = record {
      none = λ m v low of_m. none.none v;
      bound = λ m v of_m.
          let low : of_m.0 < length rows = let l = of_m.1 in let e = are.long in omega (arith, l, e) in
          let inside = All-get_or (λ r. r < length all) rows of_m.0 0 low are.inside in
          all_at (λ w. w < length first) (variables_of (seen of_m.0)) v
          (each_list (λ w. w < length first) (seen of_m.0) (none.room (slice_index_or rows of_m.0 0) inside)) of_m.3;
    } in
    let done = items OfItem nodes seen differ 0 s.items first ready (are_of nodes slots owner seen 0 s.items own) in
    to_all (NumbersItem nodes seen f) s.items (done.numbers f (λ v k h. value_at final v v k h))

-- ---- items, one after another

abbrev views : List (Item Binder) → List ItemTree
views = items_view Binder (λ b. b.0)

-- the next item, alone and in front of the others
next_item : (items : List (Item Binder)) (k : ℕ) → k < length items
    → (i : ItemTree) × ((c : ℕ) → c ≡ 1 → views (take c (drop k items)) ≡ i ∷ []) × (drop k (views items) ≡ i ∷ drop (k + 1) (views items))
next_item [] k low = absurd (omega (arith, low))
next_item (x ∷ xs) zero low = (item_view Binder (λ b. b.0) x, (λ c e. ap (λ (m : ℕ). views (take m (x ∷ xs))) e), refl)
next_item (x ∷ xs) (suc k) low =
    let r = next_item xs k (omega (arith, low)) in
    let e : suc k + 1 ≡ suc (k + 1) = omega arith in
    (r.0, r.1, r.2 ∙ ap (λ (j : ℕ). r.0 ∷ drop j (views (x ∷ xs))) (sym e))

pub record NextItem (items : List (Item Binder)) (trees : List ItemTree) (k : ℕ) : Type 0 where
  pub item : ItemTree
  pub alone : (c : ℕ) → c ≡ 1 → views (take c (drop k items)) ≡ item ∷ []
  pub first : drop k trees ≡ item ∷ drop (k + 1) trees

pub next_is : (items : List (Item Binder)) (trees : List ItemTree) (k : ℕ) → k < length items → views items ≡ trees → NextItem items trees k
next_is items trees k low e =
    let r = next_item items k low in
    record {
      item = r.0;
      alone = r.1;
      first = ap (drop k) (sym e) ∙ r.2 ∙ ap (λ (l : List ItemTree). r.0 ∷ drop (k + 1) l) e;
    }

-- its slots have types
pub slots_in : (s : Scoping) (all : List MlType) (rows : List ℕ) (owner : ℕ → ℕ) → OwnSlots (node_count s) (slot_count s) owner 0 s.items
    → AreRows all rows (slot_count s) → (k nodes : ℕ) (i : ItemTree) (rest : List ItemTree) → drop k s.items ≡ i ∷ rest → nodes ≡ node_count s
    → (given slots : List ℕ) → given ≡ slots → slots ≡ in_order nodes i → All (λ j. j < length rows) given
slots_in s all rows owner own are k nodes i rest e count given slots same is =
    let n = node_count s in
    let Low : ℕ → Type 0 = λ j. j < length rows in
    let seen = slot_types all rows in
    let later = own_behind n (slot_count s) owner seen 0 s.items own k in
    let here = subst (OwnSlots n (slot_count s) owner later.0) e later.1 in
    let low = weaker (IsOf (slot_count s) owner later.0) Low (λ j h. let l = h.0 in let long = are.long in omega (arith, l, long))
    (in_order n i) (first_own n (slot_count s) owner seen later.0 i rest here) in
    subst (All Low) (sym (same ∙ is ∙ ap (λ (m : ℕ). in_order m i) count)) (to_all Low (in_order n i) low)

pub item_next : (s : Scoping) (types : ℕ → MlType) (old new whole : List (Option ℕ)) (k nodes : ℕ) (i : ItemTree) (rest : List ItemTree)
    → drop k s.items ≡ i ∷ rest → nodes ≡ node_count s → (given slots : List ℕ) → given ≡ slots → slots ≡ in_order nodes i
    → new ≡ (with_numbers (numbers_from_zero old) (variables_at types given)).names → behind_items (node_count s) types old (drop k s.items) ≡ whole
    → behind_items (node_count s) types new rest ≡ whole
item_next s types old new whole k nodes i rest e count given slots same is named goes =
    let n = node_count s in
    let after : List ℕ → List (Option ℕ) = λ ks. (with_numbers (numbers_from_zero old) (variables_at types ks)).names in
    ap (λ (l : List (Option ℕ)). behind_items n types l rest) (named ∙ ap after (same ∙ is ∙ ap (λ (m : ℕ). in_order m i) count))
    ∙ sym (ap (behind_items n types old) e) ∙ goes
