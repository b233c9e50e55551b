-- Definitions whose types may have variables.
use Rattle.std.specs.Prelude.{◌≡◌, ℕ, ◌+◌, ◌<◌, ◌≤◌, ◌⊎◌, List, [], All, length, slice_index_or}
use Rattle.lq_types_unify.specs.Opens.{IsIn}
use Rattle.lq_types_rules.specs.declared.equations.system.System.{System}
use Rattle.lq_types_infer.specs.Inference.Copying.{IsDetermined}

-- the definition at a place has a type without variables
abbrev pub IsClosed : ℕ → System → List ℕ → ℕ → Type 0
IsClosed nodes s plain j = IsDetermined s [] (nodes + slice_index_or plain j 0)

-- of the first so many definitions those whose types may have variables are at these places
pub record AreTold (nodes : ℕ) (s : System) (plain : List ℕ) (told : ℕ) (places : List ℕ) : Type 0 where
  pub low : told ≤ length plain
  pub others : (j : ℕ) → j < told → IsIn places j ⊎ IsClosed nodes s plain j

-- Of some places those are kept whose definitions may have variables, and of these the slots are asked that come before one.
pub record IsSifted (nodes : ℕ) (s : System) (plain : List ℕ) (before : ℕ) (places kept asked : List ℕ) : Type 0 where
  pub stay : All (λ j. IsIn kept j ⊎ IsClosed nodes s plain j) places
  pub each : All (λ j. j < before → IsIn asked (nodes + slice_index_or plain j 0) ⊎ IsClosed nodes s plain j) places
  pub among : All (λ i. (j : ℕ) × (j < before) × (nodes + slice_index_or plain j 0 ≡ i)) asked
