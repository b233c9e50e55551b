-- Principal annotations: those that have every annotation that obeys the rules as an instance.
use Rattle.std.specs.Prelude.{◌≡◌, ℕ, suc, ◌+◌, ◌<◌, ◌^◌, ◌-◌, min, Bool, true, false, not, ◌&&◌, ◌||◌, nat_lt, if◌then◌else◌, List, [], ◌∷◌, ◌++◌, All, length, map, Option, Some, None, ◌⊎◌}
use Rattle.lq_base_names.specs.declared.place.Place.{Place}
use Rattle.lq_text_tree.specs.MlType as ml
use Rattle.lq_text_tree.specs.MlType.{MlType, MlTypes}
use Rattle.lq_text_tree.specs.Items.{ItemTree, ItemForm, type_of, let_of, let_rec_of}
use Rattle.lq_text_tree.specs.Tree.{tree}
use Rattle.lq_text_tree.specs.Types.{put}
use Rattle.lq_text_tree.specs.TypingRules.{ItemsAre}
use Rattle.lq_text_walk.specs.Walk.Visits.{Visit, enter_item, leave_item, enter, leave, leave_function, declare, show, hide, show_name, hide_name, place_of_pattern, visits_of_item}
use Rattle.lq_text_walk.specs.Scoped.Numbers.{nodes_of_form, nodes_of_items, binders_in}
use Rattle.lq_text_walk.specs.Scoped.Scoping.{Scoping}
use Rattle.lq_text_walk.specs.Scoped.Signature.{signature_in}
use Rattle.lq_types_rules.specs.Equations.Rows.{annotation_of, number_of}
use Rattle.lq_types_rules.specs.Constructors.Tasks.{size_of}
use Rattle.lq_types_rules.specs.Typings.Uses.{is_value}

-- how many nodes a program has; an annotation is types of these, and behind them of its binders
abbrev pub node_count : Scoping → ℕ
node_count s = length (nodes_of_items s.items)

-- the annotation obeys the rules
abbrev pub IsAnnotation : Scoping → (ℕ → MlType) → Type 0
IsAnnotation s types = ItemsAre (signature_in s.datatypes) (annotation_of (node_count s) types) [] s.items

-- ---- instances

-- with types in place of variables, the one's types of these numbers are the other's
abbrev pub BecomeBy : (ℕ → MlType) → (ℕ → MlType) → (ℕ → MlType) → List ℕ → Type 0
BecomeBy by types others ks = All (λ k. others k ≡ put by (types k)) ks

-- an item's nodes and its binders have types of their own: one replacement of variables serves all of them
abbrev pub IsItemInstance : ℕ → (ℕ → MlType) → (ℕ → MlType) → ItemTree → Type 0
IsItemInstance nodes types others i =
    (by : ℕ → MlType) × BecomeBy by types others (nodes_of_form i.form)
    × BecomeBy by (λ x. types (nodes + x)) (λ x. others (nodes + x)) (binders_in (visits_of_item i))

-- the others are an instance of the types
abbrev pub IsInstance : Scoping → (ℕ → MlType) → (ℕ → MlType) → Type 0
IsInstance s types others = All (IsItemInstance (node_count s) types others) s.items

-- the annotation obeys the rules, and has every annotation that does as an instance
pub record IsPrincipalAnnotation (s : Scoping) (types : ℕ → MlType) : Type 0 where
  pub obeys : IsAnnotation s types
  pub general : (others : ℕ → MlType) → IsAnnotation s others → IsInstance s types others

-- ---- weak definitions

-- a variable stands in the type
abbrev mutual
  pub is_open : MlType → Bool
  is_open ml.int = false
  is_open ml.bool = false
  is_open ml.unit = false
  is_open (ml.var i) = true
  is_open (ml.arrow a b) = is_open a || is_open b
  is_open (ml.tuple ts) = some_open ts
  is_open (ml.array a) = is_open a
  is_open (ml.named d ts) = some_open ts
  is_open (ml.map_of a) = is_open a

  pub some_open : MlTypes → Bool
  some_open ml.no_types = false
  some_open (ml.more_types t ts) = is_open t || some_open ts

-- a definition that is no value, and whose type has a variable
abbrev pub is_weak : (ℕ → MlType) → ItemForm → Bool
is_weak types (type_of d) = false
is_weak types (let_of q e) = not (is_value e) && is_open (types (number_of e))
is_weak types (let_rec_of f r) = false

-- the place of the first weak definition: that of its name, or of its `_`
abbrev pub weak_place : ItemForm → Place → Place
weak_place (type_of d) p = p
weak_place (let_of q e) p = place_of_pattern q
weak_place (let_rec_of f r) p = p

abbrev pub first_weak : (ℕ → MlType) → List ItemTree → Option Place
first_weak types [] = None
first_weak types (i ∷ is) = if is_weak types i.form then Some (weak_place i.form i.place) else first_weak types is

-- ---- large types

-- the nodes of a program with their places, in the order in which they end
abbrev pub placed_at : Visit → List (ℕ × Place)
placed_at (enter_item i) = []
placed_at (leave_item i) = []
placed_at (enter t) = []
placed_at (leave (tree i p f)) = (i, p) ∷ []
placed_at (leave_function r) = (r.id, r.place) ∷ []
placed_at (declare q) = []
placed_at (show q) = []
placed_at (hide q) = []
placed_at (show_name x) = []
placed_at (hide_name x) = []

abbrev pub placed_in : List Visit → List (ℕ × Place)
placed_in [] = []
placed_in (v ∷ vs) = placed_at v ++ placed_in vs

-- how many types stand in a type, itself among them, up to 2^64 - 1
abbrev pub counted : MlType → ℕ
counted a = min (size_of a) (2 ^ 64 - 1)

-- the first node whose type has more than 2,000, with their number
abbrev pub first_past : (ℕ → MlType) → List (ℕ × Place) → Option (Place × ℕ)
first_past types [] = None
first_past types (n ∷ ns) = if nat_lt 2000 (size_of (types n.0)) then Some (n.1, counted (types n.0)) else first_past types ns

-- ---- numbers of variables

-- the variables of a type from left to right
abbrev mutual
  pub variables_of : MlType → List ℕ
  variables_of ml.int = []
  variables_of ml.bool = []
  variables_of ml.unit = []
  variables_of (ml.var i) = i ∷ []
  variables_of (ml.arrow a b) = variables_of a ++ variables_of b
  variables_of (ml.tuple ts) = variables_in ts
  variables_of (ml.array a) = variables_of a
  variables_of (ml.named d ts) = variables_in ts
  variables_of (ml.map_of a) = variables_of a

  pub variables_in : MlTypes → List ℕ
  variables_in ml.no_types = []
  variables_in (ml.more_types t ts) = variables_of t ++ variables_in ts

abbrev pub variables_at : (ℕ → MlType) → List ℕ → List ℕ
variables_at types [] = []
variables_at types (k ∷ ks) = variables_of (types k) ++ variables_at types ks

-- where those below this number came already, each is one of them or the next new one
abbrev pub AreNumbered : ℕ → List ℕ → Type 0
AreNumbered n [] = Unit {0}
AreNumbered n (x ∷ xs) = ((x < n) × AreNumbered n xs) ⊎ ((x ≡ n) × AreNumbered (suc n) xs)

-- the node that has a definition's own type
abbrev pub own_node : ItemForm → List ℕ
own_node (type_of d) = []
own_node (let_of q e) = number_of e ∷ []
own_node (let_rec_of f r) = r.id ∷ []

-- those of a definition's own type, of its nodes as they end, and of its binders
abbrev pub in_order : ℕ → ItemTree → List ℕ
in_order nodes i = own_node i.form ++ (nodes_of_form i.form ++ map (λ x. nodes + x) (binders_in (visits_of_item i)))

-- The variables of a definition are numbered from 0: those of its own type first, then by first appearance in its nodes, then in its binders.
abbrev pub IsNumbered : ℕ → (ℕ → MlType) → ItemTree → Type 0
IsNumbered nodes types i = AreNumbered 0 (variables_at types (in_order nodes i))
