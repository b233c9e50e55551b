-- Copies of the nodes of a definition, for a use of it.
use Rattle.std.specs.Prelude.{◌≡◌, ℕ, ◌<◌, ◌≤◌, ◌⊎◌, map, Option, Some, All}
use Rattle.lq_types_unify.specs.Simple.{Simple, variable, replaced}
use Rattle.lq_types_unify.specs.Nodes.{Form}
use Rattle.lq_types_unify.specs.Solution.{Fits}
use Rattle.lq_types_unify.specs.Variables.{Each}

-- where a part goes: to a copy of a node that has its type, or to a node that is shared, whose variables stay
abbrev pub GoesTo : ℕ → (ℕ → Simple) → (ℕ → Simple) → (ℕ → ℕ) → ℕ → ℕ → Type 0
GoesTo count types by origin p q = ((count ≤ q) × (types (origin q) ≡ types p)) ⊎ ((q < count) × (types q ≡ types p) × Each (λ v. by v ≡ variable v) (types p))

-- each later node with a form is a copy of an earlier one, part by part
pub record AreCopies (old new : ℕ → Option Form) (count : ℕ) (types by : ℕ → Simple) : Type 0 where
  pub origin : ℕ → ℕ
  pub goes : ℕ → ℕ → ℕ
  pub kept : (i : ℕ) → i < count → new i ≡ old i
  pub inside : (i : ℕ) (f : Form) → old i ≡ Some f → All (λ p. p < count) f.parts
  pub copied : (q : ℕ) (f : Form) → count ≤ q → new q ≡ Some f
      → (g : Form) × (old (origin q) ≡ Some g) × (f.head ≡ g.head) × (f.parts ≡ map (goes q) g.parts) × All (λ p. GoesTo count types by origin p (goes q p)) g.parts

-- types of the earlier nodes, with other types for some variables, are types of the copies too
pub record IsExtended (new : ℕ → Option Form) (count : ℕ) (types by : ℕ → Simple) (origin : ℕ → ℕ) : Type 0 where
  pub more : ℕ → Simple
  pub fits : Fits new more
  pub same : (i : ℕ) → i < count → more i ≡ types i
  pub copies : (q : ℕ) → count ≤ q → more q ≡ replaced by (types (origin q))

abbrev pub TypesExtendToCopies : Type 0
TypesExtendToCopies = (old new : ℕ → Option Form) (count : ℕ) (types by : ℕ → Simple) → (c : AreCopies old new count types by) → Fits old types → IsExtended new count types by c.origin
