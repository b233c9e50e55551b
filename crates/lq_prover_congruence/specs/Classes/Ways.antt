-- Ways along the edges of a forest.
use Rattle.std.specs.Prelude.{◌≡◌, ◌⊎◌, ℕ, List, [], ◌∷◌, Option, Some}
use Rattle.lq_prover_congruence.specs.declared.classes.forest.Edge.{Edge}
use Rattle.lq_prover_congruence.specs.declared.classes.tracing.Hop.{Hop}

-- edges lead up from one term to another by these terms and reasons
abbrev pub IsClimb : (ℕ → Option Edge) → ℕ → List Hop → ℕ → Type 0
IsClimb f i [] m = i ≡ m
IsClimb f i (h ∷ hs) m = (h.term ≡ i) × (e : Edge) × (f i ≡ Some e) × (e.reason ≡ h.reason) × IsClimb f e.to hs m

-- two climbs end at one term
abbrev pub Meets : (ℕ → Option Edge) → ℕ → List Hop → ℕ → List Hop → Type 0
Meets f a xs b ys = (m : ℕ) × IsClimb f a xs m × IsClimb f b ys m

-- an edge between two terms, either way
abbrev pub IsEdge : (ℕ → Option Edge) → ℕ → ℕ → ℕ → Type 0
IsEdge f a b r = (f a ≡ Some (record { to = b; reason = r })) ⊎ (f b ≡ Some (record { to = a; reason = r }))

-- the reasons of edges that lead from one term to another, each edge read either way
abbrev pub IsWay : (ℕ → Option Edge) → ℕ → ℕ → List ℕ → Type 0
IsWay f a b [] = a ≡ b
IsWay f a b (r ∷ rs) = (m : ℕ) × IsEdge f a m r × IsWay f m b rs
