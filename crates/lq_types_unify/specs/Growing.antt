-- Classes of an arena that got more nodes.
use Rattle.std.specs.Prelude.{◌≡◌, ℕ, ◌<◌, ◌≤◌, List, Option, None, length}
use Rattle.lq_types_unify.specs.declared.arena.Equation.{Equation}
use Rattle.lq_types_unify.specs.Nodes.{Form}
use Rattle.lq_types_unify.specs.Classes.{up, IsKnown}

-- the tables of an arena with more nodes: each new node is alone in its class
pub record IsGrown (old new : ℕ → Option Form) (m n : ℕ) (parents shapes grown kept : List ℕ) : Type 0 where
  pub more : m ≤ n
  pub same : (i : ℕ) → i < m → new i ≡ old i
  pub past : (i : ℕ) → m ≤ i → old i ≡ None
  pub parents_length : length grown ≡ n
  pub shapes_length : length kept ≡ n
  pub parents_same : (i : ℕ) → up grown i ≡ up parents i
  pub shapes_same : (i : ℕ) → up kept i ≡ up shapes i

abbrev pub KnownClassesGrow : Type 0
KnownClassesGrow = (old new : ℕ → Option Form) (m n : ℕ) (parents shapes grown kept : List ℕ) (found equations : List Equation) → IsGrown old new m n parents shapes grown kept
    → IsKnown old m parents shapes found equations → IsKnown new n grown kept found equations
