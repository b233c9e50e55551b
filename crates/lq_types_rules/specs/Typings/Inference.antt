-- What is answered for a scoped program: its principal annotation, or why it has none that is wanted.
use Rattle.std.specs.Prelude.{◌≡◌, ℕ, List, [], ◌∷◌, ◌++◌, All, Option, Some, None}
use Rattle.lq_base_names.specs.declared.place.Place.{Place}
use Rattle.lq_text_tree.specs.MlType.{MlType}
use Rattle.lq_text_tree.specs.Tree.{tree}
use Rattle.lq_text_walk.specs.Walk.Visits.{Visit, enter_item, leave_item, enter, leave, leave_function, declare, show, hide, show_name, hide_name, visits_of_items}
use Rattle.lq_text_walk.specs.Scoped.Scoping.{Scoping}
use Rattle.lq_text_walk.specs.Scoped.Signature.{signature_in}
use Rattle.lq_types_rules.specs.Typings.Uses.{ObeysUses}
use Rattle.lq_types_rules.specs.Typings.Principal.{node_count, IsPrincipalAnnotation, first_weak, placed_in, first_past, IsNumbered}

-- the place of what is left: of a node, of the function of a recursive definition, or of an item's first token
abbrev pub place_at : Visit → Option Place
place_at (enter_item i) = None
place_at (leave_item i) = Some i.place
place_at (enter t) = None
place_at (leave (tree i p f)) = Some p
place_at (leave_function r) = Some r.place
place_at (declare q) = None
place_at (show q) = None
place_at (hide q) = None
place_at (show_name x) = None
place_at (hide_name x) = None

-- the types obey the rules of these first visits of a program
abbrev pub IsUpTo : Scoping → List Visit → (ℕ → MlType) → Type 0
IsUpTo s front types = ObeysUses (signature_in s.datatypes) (node_count s) front types

-- The rules up to this place can't hold together, and those before it can.
pub record IsIllTyped (s : Scoping) (place : Place) : Type 0 where
  pub front : List Visit
  pub visit : Visit
  pub later : List Visit
  pub split : visits_of_items s.items ≡ front ++ visit ∷ later
  pub there : place_at visit ≡ Some place
  pub can : (types : ℕ → MlType) × IsUpTo s front types
  pub cannot : (types : ℕ → MlType) → IsUpTo s (front ++ visit ∷ []) types → ⊥

pub data Answer : Type 0 where
  typed : (ℕ → MlType) → Answer
  ill_typed : Place → Answer
  weak : Place → Answer
  past : Place → ℕ → Answer

-- A definition is weak where there is a principal annotation, and a type is too large where no definition is weak.
abbrev pub IsInference : Scoping → Answer → Type 0
IsInference s (typed types) =
    IsPrincipalAnnotation s types × (first_weak types s.items ≡ None) × (first_past types (placed_in (visits_of_items s.items)) ≡ None)
    × All (IsNumbered (node_count s) types) s.items
IsInference s (ill_typed p) = IsIllTyped s p
IsInference s (weak p) = (types : ℕ → MlType) × IsPrincipalAnnotation s types × (first_weak types s.items ≡ Some p)
IsInference s (past p n) =
    (types : ℕ → MlType) × IsPrincipalAnnotation s types × (first_weak types s.items ≡ None) × (first_past types (placed_in (visits_of_items s.items)) ≡ Some (p, n))
