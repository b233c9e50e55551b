-- An order of the classes in which parts come first.
use Rattle.std.specs.Prelude.{◌≡◌, ℕ, ◌<◌, List, Option, All, length, slice_index_or}
use Rattle.lq_types_unify.specs.declared.order.Mark.{Mark}
use Rattle.lq_types_unify.specs.declared.order.Mark.TheVariants.{Done}
use Rattle.lq_types_unify.specs.Nodes.{Form}
use Rattle.lq_types_unify.specs.Classes.{up, root}
use Rattle.lq_types_unify.specs.Value.{inner}
use Rattle.lq_types_unify.specs.Visits.{IsTable, mark_at}

-- a class is among the first k of the order
abbrev pub IsAmong : List ℕ → ℕ → ℕ → Type 0
IsAmong order k r = (j : ℕ) × (j < k) × (slice_index_or order j 0 ≡ r)

-- Roots stand in the order, each behind the roots of the parts of its class. One may stand there twice.
pub record IsOrder (forms : ℕ → Option Form) (n : ℕ) (parents shapes order : List ℕ) : Type 0 where
  pub inside : (k : ℕ) → k < length order → slice_index_or order k 0 < n
  pub roots : (k : ℕ) → k < length order → up parents (slice_index_or order k 0) ≡ slice_index_or order k 0
  pub parts_first : (k : ℕ) → k < length order → All (λ p. IsAmong order k (root parents p)) (inner forms shapes (slice_index_or order k 0))

-- the classes that are done stand in the order
pub record IsPut (forms : ℕ → Option Form) (n : ℕ) (parents shapes : List ℕ) (marks : List Mark) (order : List ℕ) : Type 0 where
  pub listed : IsOrder forms n parents shapes order
  pub done : (r : ℕ) → mark_at marks r ≡ Done → IsAmong order (length order) r

-- each node's parent is its root, and the order has the roots of all nodes
pub record AreOrdered (forms : ℕ → Option Form) (n : ℕ) (parents shapes order : List ℕ) : Type 0 where
  pub table : IsTable forms n parents shapes
  pub listed : IsOrder forms n parents shapes order
  pub all : (i : ℕ) → i < n → IsAmong order (length order) (root parents i)
