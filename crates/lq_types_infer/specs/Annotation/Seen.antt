-- Types of a program's slots that are those of the most general solution of its equations.
use Rattle.std.specs.Prelude.{◌≡◌, ℕ, Some, None}
use Rattle.lq_base_names.specs.declared.place.Place.{Place}
use Rattle.lq_text_tree.specs.MlType.{MlType}
use Rattle.lq_types_rules.specs.Equations.Adding.{Agree}
use Rattle.lq_types_rules.specs.declared.equations.system.System.{System}
use Rattle.lq_text_walk.specs.Scoped.Scoping.{Scoping, IsScoped}
use Rattle.lq_types_rules.specs.Typings.Inference.{weak, IsInference}
use Rattle.lq_types_rules.specs.Typings.Principal.{node_count, IsPrincipalAnnotation, first_weak}
use Rattle.lq_types_rules.specs.Visits.Laws.{slot_count, OwnSlots}
use Rattle.lq_types_infer.specs.Inference.Inferring.{IsSolved}
use Rattle.lq_types_infer.specs.Annotation.Laws.{AreVariablesApart}

pub record IsSeen (s : Scoping) (seen : ℕ → MlType) : Type 0 where
  pub equations : System
  pub types : ℕ → MlType
  pub solved : IsSolved s equations types
  pub same : Agree (slot_count s) types seen

-- They are a principal annotation, where no definition is weak.
abbrev pub SeenArePrincipal : Type 0
SeenArePrincipal = (s : Scoping) (seen : ℕ → MlType) → IsScoped s → IsSeen s seen → first_weak seen s.items ≡ None → IsPrincipalAnnotation s seen

-- A definition that is weak by them is.
abbrev pub SeenAreWeak : Type 0
SeenAreWeak = (s : Scoping) (seen : ℕ → MlType) (p : Place) → IsScoped s → IsSeen s seen → first_weak seen s.items ≡ Some p → IsInference s (weak p)

-- A variable stands in the types of one item alone, where no definition is weak.
abbrev pub SeenVariablesAreApart : Type 0
SeenVariablesAreApart = (s : Scoping) (seen : ℕ → MlType) → IsScoped s → IsSeen s seen → first_weak seen s.items ≡ None
    → (owner : ℕ → ℕ) → OwnSlots (node_count s) (slot_count s) owner 0 s.items → AreVariablesApart s seen owner
