-- Solutions of equations between nodes.
use Rattle.std.specs.Prelude.{◌≡◌, ◌<◌, ◌≤◌, take, length, ℕ, List, Option, Some, All}
use Rattle.lq_types_unify.specs.declared.arena.Equation.{Equation}
use Rattle.lq_types_unify.specs.Simple.{Simple, made, each, replaced}
use Rattle.lq_types_unify.specs.Nodes.{Form}

-- each node that has a form has a type of that form
abbrev pub Fits : (ℕ → Option Form) → (ℕ → Simple) → Type 0
Fits forms types = (i : ℕ) (f : Form) → forms i ≡ Some f → types i ≡ made f.head (each types f.parts)

abbrev pub Meets : (ℕ → Simple) → List Equation → Type 0
Meets types equations = All (λ e. types e.left ≡ types e.right) equations

-- a type for each node, by the forms, that makes the sides of each equation equal
pub record IsSolution (forms : ℕ → Option Form) (equations : List Equation) (types : ℕ → Simple) : Type 0 where
  pub fits : Fits forms types
  pub meets : Meets types equations

abbrev pub HasNoSolution : (ℕ → Option Form) → List Equation → Type 0
HasNoSolution forms equations = (types : ℕ → Simple) → IsSolution forms equations types → ⊥

-- replacing variables turns the first into the second
abbrev pub IsInstance : (ℕ → Simple) → (ℕ → Simple) → Type 0
IsInstance general types = (by : ℕ → Simple) × ((i : ℕ) → types i ≡ replaced by (general i))

-- a solution that has every solution as an instance
pub record IsPrincipal (forms : ℕ → Option Form) (equations : List Equation) (types : ℕ → Simple) : Type 0 where
  pub solves : IsSolution forms equations types
  pub general : (others : ℕ → Simple) → IsSolution forms equations others → IsInstance types others

abbrev pub AreNodes : ℕ → List Equation → Type 0
AreNodes n equations = All (λ e. (e.left < n) × (e.right < n)) equations

abbrev pub HasSolution : (ℕ → Option Form) → List Equation → Type 0
HasSolution forms equations = (types : ℕ → Simple) × IsSolution forms equations types

-- the first k equations have no solution, and fewer have one
pub record IsFirstFailing (forms : ℕ → Option Form) (equations : List Equation) (k : ℕ) : Type 0 where
  pub within : k ≤ length equations
  pub fails : HasNoSolution forms (take k equations)
  pub before : (j : ℕ) → j < k → HasSolution forms (take j equations)
