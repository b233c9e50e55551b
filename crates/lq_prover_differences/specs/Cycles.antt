-- Walks along arcs against their direction, from the head of each to its tail, and what closes one.
use Rattle.std.specs.Prelude.{◌≡◌, ◌≢◌, ℕ, ℤ, pos, ◌+ℤ◌, ◌⊎◌, Bool, List, [], ◌∷◌, slice_get, Some}
use Rattle.std.specs.Int.Signed.{◌<ℤ◌}
use Rattle.lq_prover_differences.specs.declared.arc.Arc.{Arc}

abbrev pub Each : (Arc → Type 0) → List Arc → Type 0
Each P [] = Unit {0}
Each P (s ∷ steps) = P s × Each P steps

abbrev pub IsAmong : List Arc → Arc → Type 0
IsAmong arcs a = (k : ℕ) × (slice_get arcs k ≡ Some a)

abbrev pub IsWalk : List Arc → ℕ → ℕ → List Arc → Type 0
IsWalk arcs a b [] = a ≡ b
IsWalk arcs a b (s ∷ steps) = IsAmong arcs s × (s.to ≡ a) × IsWalk arcs s.from b steps

abbrev pub costs : List Arc → ℤ
costs [] = pos 0
costs (s ∷ steps) = s.cost +ℤ costs steps

-- each tag at most once
abbrev pub TagsOnce : List Arc → Type 0
TagsOnce [] = Unit {0}
TagsOnce (s ∷ steps) = Each (λ other. other.tag ≢ s.tag) steps × TagsOnce steps

-- the tags of the steps, and whether each row is read forwards
abbrev pub marks : List Arc → List (ℕ × Bool)
marks [] = []
marks (s ∷ steps) = (s.tag, s.forward) ∷ marks steps

-- a closed walk over distinct tags whose costs sum to less than 0
pub record IsNegativeCycle (arcs : List Arc) (found : List (ℕ × Bool)) : Type 0 where
  pub start : ℕ
  pub steps : List Arc
  pub walk : IsWalk arcs start start steps
  pub negative : costs steps <ℤ pos 0
  pub once : TagsOnce steps
  pub is : found ≡ marks steps

-- two arcs of one tag are one row's: they have the same ends, or are the two readings of an equation
pub record IsPair (a b : Arc) : Type 0 where
  pub ends : ((a.from ≡ b.from) × (a.to ≡ b.to)) ⊎ ((a.from ≡ b.to) × (a.to ≡ b.from) × (a.cost +ℤ b.cost ≡ pos 0))

abbrev pub ArePaired : List Arc → Type 0
ArePaired arcs = (j k : ℕ) (a b : Arc) → slice_get arcs j ≡ Some a → slice_get arcs k ≡ Some b → a.tag ≡ b.tag → IsPair a b
