-- The open classes that nodes reach.
use Rattle.std.specs.Prelude.{◌≡◌, ℕ, ◌<◌, Bool, true, List, Option, None, All, length, slice_index_or}
use Rattle.lq_types_unify.specs.Nodes.{Form}
use Rattle.lq_types_unify.specs.Variables.{Each}
use Rattle.lq_types_unify.specs.Classes.{up, root}
use Rattle.lq_types_unify.specs.Value.{value}
use Rattle.lq_types_unify.specs.Reaching.{IsInherited}

abbrev pub IsIn : List ℕ → ℕ → Type 0
IsIn rs r = (k : ℕ) × (k < length rs) × (slice_index_or rs k 0 ≡ r)

abbrev pub IsOpenClass : (ℕ → Option Form) → List ℕ → ℕ → Type 0
IsOpenClass forms shapes r = forms (up shapes r) ≡ None

-- those of some classes that are open
pub record AreOpenOf (forms : ℕ → Option Form) (shapes classes open_ : List ℕ) : Type 0 where
  pub are_open : All (IsOpenClass forms shapes) open_
  pub all_ : (k : ℕ) → k < length classes → IsOpenClass forms shapes (slice_index_or classes k 0) → IsIn open_ (slice_index_or classes k 0)
  pub only : (seen : ℕ → Bool) → All (λ r. seen r ≡ true) classes → All (λ r. seen r ≡ true) open_

-- The roots of the open classes that nodes reach: all open variables of the nodes' types are among them, and what holds of the nodes'
-- classes and goes over to parts holds of all.
pub record AreOpens (forms : ℕ → Option Form) (parents shapes nodes open_ : List ℕ) : Type 0 where
  pub are_open : All (IsOpenClass forms shapes) open_
  pub every : All (λ i. (levels : ℕ) → Each (λ v. IsOpenClass forms shapes v → IsIn open_ v) (value levels forms parents shapes i)) nodes
  pub only : (seen : ℕ → Bool) → IsInherited forms parents shapes seen → All (λ i. seen (root parents i) ≡ true) nodes → All (λ r. seen r ≡ true) open_
