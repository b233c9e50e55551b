-- What holds of all arcs at once.
use Rattle.std.specs.Prelude.{◌≡◌, ◌≢◌, ℕ, pos, ◌+ℤ◌, ◌≤ℤ◌, ◌≤◌, ◌+◌, ◌⊎◌, Bool, false, List, Some, slice_get, IfSome}
use Rattle.lq_prover_differences.specs.declared.arc.Arc.{Arc}
use Rattle.lq_prover_differences.specs.declared.vertex.Vertex.{Vertex}
use Rattle.lq_prover_differences.specs.Arcs.{Potentials, IsGreatest, falls}
use Rattle.lq_prover_differences.specs.Passes.{IsStuck}

-- the costs below 0 sum to at most n, and none is above it
pub record IsBounded (n : ℕ) (arcs : List Arc) : Type 0 where
  pub fall : falls arcs ≤ n
  pub costs : (k : ℕ) → IfSome (slice_get arcs k) (λ a. a.cost ≤ℤ pos n)

-- greatest potentials, whichever vertices were placed
pub record IsSolved (arcs : List Arc) (p : Potentials) : Type 0 where
  pub placed : ℕ → Bool
  pub greatest : IsGreatest placed arcs p

abbrev pub IsEnded : List Arc → ℕ → (ℕ → Vertex) → (ℕ → ℕ) → Type 0
IsEnded arcs closing s order = (top : ℕ) × IsStuck arcs top closing s order

-- no arc leads from the vertex or to it
abbrev pub IsUnnamed : List Arc → ℕ → Type 0
IsUnnamed arcs v = (k : ℕ) → IfSome (slice_get arcs k) (λ a. (a.from ≢ v) × (a.to ≢ v))

-- the two readings of one equation between two vertices
pub record IsOpposite (arc back : Arc) : Type 0 where
  pub apart : arc.from ≢ arc.to
  pub from : back.from ≡ arc.to
  pub to : back.to ≡ arc.from
  pub cost : arc.cost +ℤ back.cost ≡ pos 0

abbrev pub ArePair : List Arc → ℕ → Arc → Arc → Type 0
ArePair arcs at first second = (slice_get arcs at ≡ Some first) × (slice_get arcs (at + 1) ≡ Some second)

-- the arcs of the numbers `at` and `at` + 1 are opposite, and this one of them leads to a vertex that isn't marked
pub record IsPlacing (arcs : List Arc) (at : ℕ) (touched : ℕ → Bool) (arc : Arc) : Type 0 where
  pub back : Arc
  pub pair : ArePair arcs at arc back ⊎ ArePair arcs at back arc
  pub opposite : IsOpposite arc back
  pub untouched : touched arc.to ≡ false
