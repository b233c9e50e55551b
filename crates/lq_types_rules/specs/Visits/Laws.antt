-- What holds of the slots of scoped programs.
use Rattle.std.specs.Prelude.{◌≡◌, ℕ, suc, ◌+◌, ◌<◌, List, [], ◌∷◌, All, length}
use Rattle.lq_text_tree.specs.Items.{ItemTree}
use Rattle.lq_text_walk.specs.Walk.Visits.{visits_of_item, visits_of_items}
use Rattle.lq_types_rules.specs.Equations.Gathered.{VisitIn}
use Rattle.lq_text_walk.specs.Scoped.Numbers.{nodes_of_form, binders_in}
use Rattle.lq_text_walk.specs.Scoped.Scoping.{Scoping, IsScoped}
use Rattle.lq_types_rules.specs.Visits.Owning.{AreApart}
use Rattle.lq_types_rules.specs.Typings.Principal.{node_count, own_node}

-- how many slots a program has: one for each node, and behind them one for each binder
abbrev pub slot_count : Scoping → ℕ
slot_count s = node_count s + length s.sources

abbrev pub ScopedSlotsAreApart : Type 0
ScopedSlotsAreApart = (s : Scoping) → IsScoped s → AreApart (node_count s) (slot_count s) (visits_of_items s.items)

abbrev pub ScopedVisitsAreIn : Type 0
ScopedVisitsAreIn = (s : Scoping) → IsScoped s → All (VisitIn (node_count s) (slot_count s)) (visits_of_items s.items)

-- the slot is in range, and of the item with this number
abbrev pub IsOf : ℕ → (ℕ → ℕ) → ℕ → ℕ → Type 0
IsOf slots owner n j = (j < slots) × (owner j ≡ n)

-- the slots of each item's nodes and binders are its own, and so is that of its own type, where the items have the numbers from this one on
abbrev pub OwnSlots : ℕ → ℕ → (ℕ → ℕ) → ℕ → List ItemTree → Type 0
OwnSlots nodes slots owner n [] = Unit {0}
OwnSlots nodes slots owner n (i ∷ is) =
    All (IsOf slots owner n) (nodes_of_form i.form) × All (λ x. IsOf slots owner n (nodes + x)) (binders_in (visits_of_item i))
    × All (IsOf slots owner n) (own_node i.form) × OwnSlots nodes slots owner (suc n) is

abbrev pub ScopedItemsOwnSlots : Type 0
ScopedItemsOwnSlots = (s : Scoping) → IsScoped s → (owner : ℕ → ℕ) × OwnSlots (node_count s) (slot_count s) owner 0 s.items
