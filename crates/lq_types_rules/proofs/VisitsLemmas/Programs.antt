-- A whole program: its nodes and binders have the numbers from 0 on, so that each is of one item.
use Rattle.std.specs.Prelude.{nat_lt, if◌then◌else◌, All}
use Rattle.std.proofs.Common.{◌≡◌, ℕ, suc, ◌+◌, ◌-◌, ◌<◌, ◌≤◌, Bool, true, false, List, [], ◌∷◌, ◌++◌, length, refl, sym, ap, subst, ◌∙◌, arith, append_assoc}
use Rattle.std.proofs.lemmas.Bool.{false≢true, true≢false, lt-ltb, le-ltb}
use Rattle.std.proofs.lemmas.List.{append-nil}
use Rattle.lq_text_tree.specs.Items.{ItemTree, ItemForm, type_of, let_of, let_rec_of}
use Rattle.lq_text_walk.specs.Walk.Visits.{Visit, leave_item, visits_of_form, visits_of_item, visits_of_items}
use Rattle.lq_types_rules.specs.Equations.Gathered.{VisitIn}
use Rattle.lq_text_walk.specs.Scoped.Numbers.{nodes_of_form, nodes_of_items, numbers_in, binders_at, binders_in}
use Rattle.lq_text_walk.specs.Scoped.Scoping.{Scoping, IsScoped}
use Rattle.lq_types_rules.specs.Typings.Fronts.{left_at, left_in}
use Rattle.lq_types_rules.specs.Typings.Principal.{node_count, own_node}
use Rattle.lq_types_rules.specs.Typings.Uses.{none_known}
use Rattle.lq_types_rules.specs.Visits.Laws.{slot_count, IsOf, OwnSlots}
use Rattle.lq_types_rules.specs.Visits.Owning.{item_slots, AreApart}
use Rattle.lq_types_rules.proofs.VisitsLemmas.Items.{AreMine, items_in, items_owned, no_state, no_low}
use Rattle.lq_types_rules.proofs.VisitsLemmas.Lists.{AllOf, all_left, all_right, to_all}
use Rattle.lq_types_rules.proofs.VisitsLemmas.Numbers.{Rising, rising_from, from_below, owner_in, AreIn, are_in}
use Rattle.lq_types_rules.proofs.VisitsLemmas.Trees.{IsMine, item_part}
use Rattle.std.proofs.lemmas.Option.{none-some}

-- the nodes and the binders of a program, item by item
abbrev node_lists : List ItemTree → List (List ℕ)
node_lists [] = []
node_lists (i ∷ is) = nodes_of_form i.form ∷ node_lists is

abbrev binder_lists : List ItemTree → List (List ℕ)
binder_lists [] = []
binder_lists (i ∷ is) = binders_in (visits_of_form i.form) ∷ binder_lists is

all_nodes : (is : List ItemTree) → numbers_in (node_lists is) ≡ nodes_of_items is
all_nodes [] = refl
all_nodes (i ∷ is) = ap (λ (xs : List ℕ). nodes_of_form i.form ++ xs) (all_nodes is)

binders_append : (us vs : List Visit) → binders_in (us ++ vs) ≡ binders_in us ++ binders_in vs
binders_append [] vs = refl
binders_append (u ∷ us) vs = ap (λ (xs : List ℕ). binders_at u ++ xs) (binders_append us vs) ∙ sym
    (append_assoc (binders_at u) (binders_in us) (binders_in vs))

item_binders : (i : ItemTree) → binders_in (visits_of_item i) ≡ binders_in (visits_of_form i.form)
item_binders i = binders_append (visits_of_form i.form) (leave_item i ∷ []) ∙ append-nil (binders_in (visits_of_form i.form))

all_binders : (is : List ItemTree) → numbers_in (binder_lists is) ≡ binders_in (visits_of_items is)
all_binders [] = refl
all_binders (i ∷ is) =
    let own = binders_in (visits_of_form i.form) in
    ap (λ (xs : List ℕ). own ++ xs) (all_binders is)
    ∙ sym (binders_append (visits_of_item i) (visits_of_items is)
    ∙ ap (λ (xs : List ℕ). xs ++ binders_in (visits_of_items is)) (item_binders i))

-- the nodes that the visits of an item leave are its own
form_left : (f : ItemForm) → left_in (visits_of_form f) ≡ nodes_of_form f
form_left f = (item_part 0 (λ j. Unit {0}) none_known (λ x ps is. absurd (none-some ps is)) f).left

module _ (nodes : ℕ) (Own : ℕ → Type 0) where
  each_mine : (us : List Visit) → AllOf Own (left_in us) → AllOf (λ x. Own (nodes + x)) (binders_in us) → AllOf (IsMine nodes Own) us
  each_mine [] h l = tt
  each_mine (u ∷ us) h l = (
    (all_left Own (left_at u) (left_in us) h, all_left (λ x. Own (nodes + x)) (binders_at u) (binders_in us) l),
    each_mine us (all_right Own (left_at u) (left_in us) h) (all_right (λ x. Own (nodes + x)) (binders_at u) (binders_in us) l),
  )

  -- the node that has an item's own type is named by the rule of the item
  own_named : (f : ItemForm) → AllOf Own (item_slots nodes f) → AllOf Own (own_node f)
  own_named (type_of d) h = tt
  own_named (let_of q e) h = (h.0, tt)
  own_named (let_rec_of f r) h = (h.1.0, tt)

  own_first : (f : ItemForm) → AllOf (IsMine nodes Own) (visits_of_form f) → AllOf Own (own_node f)
  own_first f mine = own_named f ((item_part nodes Own none_known (λ x ps is. absurd (none-some ps is)) f).own mine)

node_owner : (n m : ℕ) (b : Bool) → b ≡ true → (if b then n else m) ≡ n
node_owner n m true h = refl
node_owner n m false h = absurd (false≢true h)

binder_owner : (n m : ℕ) (b : Bool) → b ≡ false → (if b then n else m) ≡ m
binder_owner n m true h = absurd (true≢false h)
binder_owner n m false h = refl

-- nodes come first, and behind them binders
module _ (nodes binders : ℕ) (of_node of_binder : ℕ → ℕ) where
  abbrev pub owner_of : ℕ → ℕ
  owner_of j = if nat_lt j nodes then of_node j else of_binder (j - nodes)

  nodes_are : (n : ℕ) (xs : List ℕ) → AllOf (λ x. x < nodes) xs → AllOf (λ x. of_node x ≡ n) xs → AllOf (IsOf (nodes + binders) owner_of n) xs
  nodes_are n [] low same = tt
  nodes_are n (x ∷ xs) low same =
      let less = low.0 in (
        (
          omega (arith, less),
          node_owner (of_node x) (of_binder (x - nodes)) (nat_lt x nodes)
              (lt-ltb x nodes less) ∙ same.0,
        ),
        nodes_are n xs low.1 same.1,
      )

  binder_is : (n x : ℕ) → x < binders → of_binder x ≡ n → IsOf (nodes + binders) owner_of n (nodes + x)
  binder_is n x less same =
      let behind_it : nodes ≤ nodes + x = omega arith in
      let place : nodes + x - nodes ≡ x = omega arith in (
        omega (arith, less),
        binder_owner (of_node (nodes + x)) (of_binder (nodes + x - nodes)) (nat_lt (nodes + x) nodes)
            (le-ltb (nodes + x) nodes behind_it) ∙ ap of_binder place ∙ same,
      )

  binders_are : (n : ℕ) (xs : List ℕ) → AllOf (λ x. x < binders) xs → AllOf (λ x. of_binder x ≡ n) xs
      → AllOf (λ x. IsOf (nodes + binders) owner_of n (nodes + x)) xs
  binders_are n [] low same = tt
  binders_are n (x ∷ xs) low same = (binder_is n x low.0 same.0, binders_are n xs low.1 same.1)

  are_mine : (n : ℕ) (is : List ItemTree) → AllOf (λ x. x < nodes) (numbers_in (node_lists is))
      → AllOf (λ x. x < binders) (numbers_in (binder_lists is))
      → AreIn of_node n (node_lists is) → AreIn of_binder n (binder_lists is) → AreMine nodes (nodes + binders) owner_of n is
  are_mine n [] low less ns bs = tt
  are_mine n (i ∷ is) low less ns bs =
      let us = visits_of_form i.form in
      let own : ℕ → Type 0 = IsOf (nodes + binders) owner_of n in
      let xs = nodes_of_form i.form in
      let ys = binders_in us in (
        each_mine nodes own us
            (subst (AllOf own) (sym (form_left i.form)) (nodes_are n xs (all_left (λ x. x < nodes) xs (numbers_in (node_lists is)) low) ns.0))
            (binders_are n ys (all_left (λ x. x < binders) ys (numbers_in (binder_lists is)) less) bs.0),
        are_mine (suc n) is (all_right (λ x. x < nodes) xs (numbers_in (node_lists is)) low)
            (all_right (λ x. x < binders) ys (numbers_in (binder_lists is)) less) ns.1 bs.1,
      )

  own_slots : (n : ℕ) (is : List ItemTree) → AllOf (λ x. x < nodes) (numbers_in (node_lists is))
      → AllOf (λ x. x < binders) (numbers_in (binder_lists is))
      → AreIn of_node n (node_lists is) → AreIn of_binder n (binder_lists is) → OwnSlots nodes (nodes + binders) owner_of n is
  own_slots n [] low less ns bs = tt
  own_slots n (i ∷ is) low less ns bs =
      let own : ℕ → Type 0 = IsOf (nodes + binders) owner_of n in
      let xs = nodes_of_form i.form in
      let ys = binders_in (visits_of_form i.form) in
      let nodes_own = nodes_are n xs (all_left (λ x. x < nodes) xs (numbers_in (node_lists is)) low) ns.0 in
      let binders_own = binders_are n ys (all_left (λ x. x < binders) ys (numbers_in (binder_lists is)) less) bs.0 in
      let mine = each_mine nodes own (visits_of_form i.form) (subst (AllOf own) (sym (form_left i.form)) nodes_own) binders_own in (
        to_all own xs nodes_own,
        to_all (λ x. own (nodes + x)) (binders_in (visits_of_item i)) (subst (AllOf (λ x. own (nodes + x))) (sym (item_binders i)) binders_own),
        to_all own (own_node i.form) (own_first nodes own i.form mine),
        own_slots (suc n) is (all_right (λ x. x < nodes) xs (numbers_in (node_lists is)) low)
            (all_right (λ x. x < binders) ys (numbers_in (binder_lists is)) less) ns.1 bs.1,
      )

-- each node and binder of a scoped program has an owner
abbrev IsOwned : Scoping → Type 0
IsOwned s = (owner : ℕ → ℕ) × AreMine (node_count s) (slot_count s) owner 0 s.items × OwnSlots (node_count s) (slot_count s) owner 0 s.items

are_owned : (s : Scoping) → IsScoped s → IsOwned s
are_owned s is =
    let xs = nodes_of_items s.items in
    let ys = binders_in (visits_of_items s.items) in
    let of_node = owner_in 0 0 (node_lists s.items) in
    let of_binder = owner_in 0 0 (binder_lists s.items) in
    let nodes_is : numbers_in (node_lists s.items) ≡ _ = all_nodes s.items ∙ is.nodes in
    let binders_is : numbers_in (binder_lists s.items) ≡ _ = all_binders s.items ∙ is.binders in
    let few : 0 + length ys ≤ length s.sources = let e = is.named in omega (arith, e) in
    let low = subst (AllOf (λ x. x < node_count s)) (sym nodes_is) (from_below 0 (length xs) (length xs) (omega arith)) in
    let less = subst (AllOf (λ x. x < length s.sources)) (sym binders_is) (from_below 0 (length ys) (length s.sources) few) in
    let ns = are_in of_node 0 0 (node_lists s.items) (subst (Rising 0) (sym nodes_is) (rising_from 0 (length xs))) (λ x l. refl) in
    let bs = are_in of_binder 0 0 (binder_lists s.items) (subst (Rising 0) (sym binders_is) (rising_from 0 (length ys))) (λ x l. refl) in (
      owner_of (node_count s) (length s.sources) of_node of_binder,
      are_mine (node_count s) (length s.sources) of_node of_binder 0 s.items low less ns bs,
      own_slots (node_count s) (length s.sources) of_node of_binder 0 s.items low less ns bs,
    )

pub scoped_slots_are_apart : (s : Scoping) → IsScoped s → AreApart (node_count s) (slot_count s) (visits_of_items s.items)
scoped_slots_are_apart s is =
    let own = are_owned s is in
    (own.0, items_owned (node_count s) (slot_count s) own.0 0 s.items none_known [] (no_state (node_count s) (slot_count s) own.0) is.scoped own.1)

pub scoped_visits_are_in : (s : Scoping) → IsScoped s → All (VisitIn (node_count s) (slot_count s)) (visits_of_items s.items)
scoped_visits_are_in s is =
    let own = are_owned s is in
    to_all (VisitIn (node_count s) (slot_count s)) (visits_of_items s.items)
    (items_in (node_count s) (slot_count s) own.0 0 s.items [] (no_low (node_count s) (slot_count s) own.0) is.scoped own.1)

pub scoped_items_own_slots : (s : Scoping) → IsScoped s → (owner : ℕ → ℕ) × OwnSlots (node_count s) (slot_count s) owner 0 s.items
scoped_items_own_slots s is = let own = are_owned s is in (own.0, own.2)
