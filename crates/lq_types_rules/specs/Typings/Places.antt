-- Where a program is ill typed, item by item: at a node, or at an item itself, which comes behind its nodes.
use Rattle.std.specs.Prelude.{◌≡◌, ℕ, suc, ◌<◌, List, [], ◌∷◌, ◌++◌}
use Rattle.lq_base_names.specs.declared.place.Place.{Place}
use Rattle.lq_text_tree.specs.Items.{ItemTree}
use Rattle.lq_text_tree.specs.MlType.{MlType}
use Rattle.lq_text_tree.specs.TypingRules.{Every}
use Rattle.lq_text_walk.specs.Walk.Visits.{visits_of_form}
use Rattle.lq_text_walk.specs.Scoped.Scoping.{Scoping, IsScoped}
use Rattle.lq_text_walk.specs.Scoped.Signature.{signature_in}
use Rattle.lq_types_rules.specs.Equations.Rows.{annotation_of}
use Rattle.lq_types_rules.specs.Typings.Fronts.{NodesAre, After}
use Rattle.lq_types_rules.specs.Typings.Inference.{IsIllTyped}
use Rattle.lq_types_rules.specs.Typings.Principal.{node_count, placed_in}

-- the items before obey the rules, and so do the nodes of this one that are wanted
abbrev pub HoldAt : Scoping → List ItemTree → ItemTree → (ℕ → Type 0) → (ℕ → MlType) → Type 0
HoldAt s before i wanted types =
    let g = signature_in s.datatypes in let n = annotation_of (node_count s) types in After g n [] before (λ ns. NodesAre g n wanted ns i.form)

-- the items obey the rules
abbrev pub HoldThrough : Scoping → List ItemTree → (ℕ → MlType) → Type 0
HoldThrough s is types = After (signature_in s.datatypes) (annotation_of (node_count s) types) [] is (λ ns. Unit {0})

-- The first place of a program such that the rules up to it can't hold together.
pub data IsFirstPlace (s : Scoping) (place : Place) : Type 0 where
  -- the node of this number: the rules of the items before and of the item's nodes of lower numbers can hold together, but not with its own
  node : (before rest : List ItemTree) (i : ItemTree) (k : ℕ) (us ws : List (ℕ × Place)) → s.items ≡ before ++ i ∷ rest
      → placed_in (visits_of_form i.form) ≡ us ++ (k, place) ∷ ws → (types : ℕ → MlType) → HoldAt s before i (λ j. j < k) types
      → ((others : ℕ → MlType) → HoldAt s before i (λ j. j < suc k) others → ⊥) → IsFirstPlace s place
  -- the item itself: the rules of the items before and of all its nodes can, but not with what ties its binder to its type
  item : (before rest : List ItemTree) (i : ItemTree) → s.items ≡ before ++ i ∷ rest → i.place ≡ place → (types : ℕ → MlType)
      → HoldAt s before i Every types
      → ((others : ℕ → MlType) → HoldThrough s (before ++ i ∷ []) others → ⊥) → IsFirstPlace s place

abbrev pub IllTypedPlacesAreFirst : Type 0
IllTypedPlacesAreFirst = (s : Scoping) (place : Place) → IsScoped s → IsIllTyped s place → IsFirstPlace s place
