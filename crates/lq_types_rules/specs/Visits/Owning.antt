-- Which types the rule of a visit names, by their slots: those of nodes come first, and behind them those of binders. Each slot is of
-- one item.
use Rattle.std.specs.Prelude.{◌≡◌, ℕ, suc, ◌+◌, ◌<◌, ◌⊎◌, Bool, true, ◌==◌, List, [], ◌∷◌, ◌++◌, map, All, Option, Some, None}
use Rattle.std.specs.List.{list_any}
use Rattle.lq_text_tree.specs.Items.{ItemForm, type_of, let_of, let_rec_of}
use Rattle.lq_text_tree.specs.Pattern.{Pattern, bound_in}
use Rattle.lq_text_tree.specs.Tree.{Tree, tree}
use Rattle.lq_text_tree.specs.TreeView.{Case, Recursive}
use Rattle.lq_text_walk.specs.Walk.Shape as shape
use Rattle.lq_text_walk.specs.Walk.Shape.{Leaf, Shape, shape_of}
use Rattle.lq_text_walk.specs.Walk.Visits.{Visit, enter_item, leave_item, enter, leave, leave_function, declare, show, hide, show_name, hide_name}
use Rattle.lq_types_rules.specs.Equations.Rows.{number_of}
use Rattle.lq_types_rules.specs.Typings.Uses.{Known, GeneralUse, none_known, behind, use_at}

-- the slots of binders
abbrev pub binder_slots : ℕ → List ℕ → List ℕ
binder_slots nodes = map (λ x. nodes + x)

abbrev pub pattern_slots : ℕ → Pattern → List ℕ
pattern_slots nodes q = binder_slots nodes (bound_in q)

abbrev pub leaf_slots : ℕ → Leaf → List ℕ
leaf_slots nodes (shape.whole m) = []
leaf_slots nodes (shape.flag b) = []
leaf_slots nodes shape.unit = []
leaf_slots nodes (shape.use_of x) = (nodes + x) ∷ []
leaf_slots nodes (shape.qualified m x) = []
leaf_slots nodes shape.assert_false = []
leaf_slots nodes shape.map_empty = []

abbrev pub cases_slots : ℕ → List Case → List ℕ
cases_slots nodes [] = []
cases_slots nodes (c ∷ cs) = number_of c.body ∷ (pattern_slots nodes c.pattern ++ cases_slots nodes cs)

abbrev pub shape_slots : ℕ → Shape → List ℕ
shape_slots nodes (shape.leaf h) = leaf_slots nodes h
shape_slots nodes (shape.one h a) = number_of a ∷ []
shape_slots nodes (shape.two h a b) = number_of a ∷ number_of b ∷ []
shape_slots nodes (shape.three h a b c) = number_of a ∷ number_of b ∷ number_of c ∷ []
shape_slots nodes (shape.row h ts) = map number_of ts
shape_slots nodes (shape.function p b) = number_of b ∷ pattern_slots nodes p
shape_slots nodes (shape.let_in p e b) = number_of e ∷ number_of b ∷ pattern_slots nodes p
shape_slots nodes (shape.let_rec f i q p e b) = (nodes + f) ∷ i ∷ number_of b ∷ []
shape_slots nodes (shape.match_on e as_) = number_of e ∷ cases_slots nodes as_

abbrev pub tree_slots : ℕ → Tree → List ℕ
tree_slots nodes (tree i p f) = i ∷ shape_slots nodes (shape_of f)

abbrev pub function_slots : ℕ → Recursive → List ℕ
function_slots nodes r = r.id ∷ number_of r.body ∷ pattern_slots nodes r.parameter

abbrev pub item_slots : ℕ → ItemForm → List ℕ
item_slots nodes (type_of d) = []
item_slots nodes (let_of q e) = number_of e ∷ pattern_slots nodes q
item_slots nodes (let_rec_of f r) = (nodes + f) ∷ r.id ∷ []

abbrev pub visit_slots : ℕ → Visit → List ℕ
visit_slots nodes (enter_item i) = []
visit_slots nodes (leave_item i) = item_slots nodes i.form
visit_slots nodes (enter t) = []
visit_slots nodes (leave t) = tree_slots nodes t
visit_slots nodes (leave_function r) = function_slots nodes r
visit_slots nodes (declare q) = []
visit_slots nodes (show q) = []
visit_slots nodes (hide q) = []
visit_slots nodes (show_name x) = []
visit_slots nodes (hide_name x) = []

-- A use of a generalised definition names its own slot, and those of the definitions before that aren't generalised.
abbrev pub slots_by : ℕ → Option GeneralUse → List ℕ → List ℕ
slots_by nodes None others = others
slots_by nodes (Some u) others = u.node ∷ binder_slots nodes u.before

-- the slots that the rule of a visit names, where this is known
abbrev pub slots_at : ℕ → Known → Visit → List ℕ
slots_at nodes k v = slots_by nodes (use_at k v) (visit_slots nodes v)

-- a slot is that of one of these binders
abbrev pub is_slot_of : ℕ → List ℕ → ℕ → Bool
is_slot_of nodes ps i = list_any (λ p. nodes + p == i) ps

-- the number of the item behind a visit
abbrev pub item_behind : ℕ → Visit → ℕ
item_behind n (enter_item i) = n
item_behind n (leave_item i) = suc n
item_behind n (enter t) = n
item_behind n (leave t) = n
item_behind n (leave_function r) = n
item_behind n (declare q) = n
item_behind n (show q) = n
item_behind n (hide q) = n
item_behind n (show_name x) = n
item_behind n (hide_name x) = n

-- a slot that is named in the item with this number is one of these, of the item, or of a definition before that isn't generalised
abbrev pub IsOwn : ℕ → ℕ → (ℕ → ℕ) → ℕ → Known → ℕ → Type 0
IsOwn nodes slots owner n k i = (i < slots) × ((owner i ≡ n) ⊎ (is_slot_of nodes k.plain i ≡ true))

abbrev pub AreOwned : ℕ → ℕ → (ℕ → ℕ) → ℕ → Known → List Visit → Type 0
AreOwned nodes slots owner n k [] = Unit {0}
AreOwned nodes slots owner n k (v ∷ vs) =
    All (IsOwn nodes slots owner n k) (slots_at nodes k v) × AreOwned nodes slots owner (item_behind n v) (behind k v) vs

-- Each slot is of one item: the rules in an item name slots of its own, and those of definitions before that aren't generalised.
abbrev pub AreApart : ℕ → ℕ → List Visit → Type 0
AreApart nodes slots visits = (owner : ℕ → ℕ) × AreOwned nodes slots owner 0 none_known visits
