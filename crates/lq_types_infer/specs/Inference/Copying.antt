-- What a use of a definition adds: a copy of the definition's type, as nodes and one equation, or this equation alone.
use Rattle.std.specs.Prelude.{◌≡◌, ℕ, ◌<◌, ◌≤◌, ◌⊎◌, Bool, true, false, List, [], ◌∷◌, ◌++◌, All, slice_index_or}
use Rattle.lq_text_tree.specs.MlType.{MlType}
use Rattle.lq_types_unify.specs.declared.arena.Equation.{Equation}
use Rattle.lq_types_unify.specs.Classes.{IsKnown}
use Rattle.lq_types_unify.specs.Copying.{IsCopy}
use Rattle.lq_types_unify.specs.Opens.{IsIn, AreOpens}
use Rattle.lq_types_rules.specs.declared.equations.system.System.{System}
use Rattle.lq_types_rules.specs.Equations.Adding.{IsSystem, count_of, forms_of}
use Rattle.lq_types_rules.specs.Equations.Solved.{Solves}

-- no class is marked
abbrev pub AreClear : List Bool → Type 0
AreClear weak = (v : ℕ) → slice_index_or weak v false ≡ false

-- these classes are marked, and no others
pub record AreMarked (weak : List Bool) (classes : List ℕ) : Type 0 where
  pub all_ : All (λ v. slice_index_or weak v false ≡ true) classes
  pub only : (v : ℕ) → slice_index_or weak v false ≡ true → IsIn classes v

-- Solutions by which the fixed slots have the same types give the node the same type: it has no variables but those of the fixed slots.
abbrev pub IsDetermined : System → List ℕ → ℕ → Type 0
IsDetermined s fixed i =
    (types others : ℕ → MlType) → Solves s s.equations.items types → Solves s s.equations.items others → All (λ j. types j ≡ others j) fixed → types i ≡ others i

-- More nodes are a copy of the definition's type that leaves the open classes that some slots reach, and one more equation says that a
-- node has its type. What is open was asked before the copy was made, of classes that the same equations make, and of those of the slots
-- alone whose types may have variables.
pub record AddsCopy (old new : System) (fixed : List ℕ) (definition node : ℕ) : Type 0 where
  pub system : IsSystem new
  pub longer : count_of old ≤ count_of new
  pub definition_in : definition < count_of old
  pub node_in : node < count_of old
  pub fixed_in : All (λ i. i < count_of old) fixed
  pub used : ℕ
  pub inside : used < count_of new
  pub equations_are : new.equations.items ≡ old.equations.items ++ (record { left = node; right = used }) ∷ []
  pub asked : List ℕ
  pub among : All (IsIn fixed) asked
  pub others : All (λ i. IsIn asked i ⊎ IsDetermined old [] i) fixed
  pub open_ : List ℕ
  pub weak : List Bool
  pub marked : AreMarked weak open_
  -- the classes when it was asked what is open
  pub parents_before : List ℕ
  pub shapes_before : List ℕ
  pub found_before : List Equation
  pub known_before : IsKnown (forms_of old) (count_of old) parents_before shapes_before found_before old.equations.items
  pub opens : AreOpens (forms_of old) parents_before shapes_before asked open_
  -- the classes when the copy was made
  pub parents : List ℕ
  pub shapes : List ℕ
  pub found : List Equation
  pub known : IsKnown (forms_of old) (count_of old) parents shapes found old.equations.items
  pub copy : IsCopy (forms_of old) (forms_of new) (count_of old) (count_of new) parents shapes weak definition used

-- No more nodes; one more equation says that a node has the definition's own type, which those of some slots determine.
pub record AddsSame (old new : System) (fixed : List ℕ) (definition node : ℕ) : Type 0 where
  pub arena_is : new.arena ≡ old.arena
  pub definition_in : definition < count_of old
  pub node_in : node < count_of old
  pub equations_are : new.equations.items ≡ old.equations.items ++ (record { left = node; right = definition }) ∷ []
  pub determined : IsDetermined old fixed definition

-- for a use of a definition, a copy of its type or the type itself
abbrev pub AddsUse : System → System → List ℕ → ℕ → ℕ → Type 0
AddsUse old new fixed definition node = AddsCopy old new fixed definition node ⊎ AddsSame old new fixed definition node
