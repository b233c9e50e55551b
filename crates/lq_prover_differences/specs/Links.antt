-- The arcs from each vertex, as a list that goes from the last of them to the one before it.
use Rattle.std.specs.Prelude.{◌≡◌, ◌≢◌, ℕ, suc, ◌≤◌, ◌<◌, List, length, slice_get, slice_index_or, IfSome}
use Rattle.lq_prover_differences.specs.declared.arc.Arc.{Arc}
use Rattle.lq_prover_differences.specs.declared.vertex.Kept.{Kept}
use Rattle.lq_prover_differences.specs.declared.vertex.Vertex.{Vertex}

-- what stays while an arc is being admitted
abbrev pub kept : (ℕ → Vertex) → ℕ → Kept
kept s v = (s v).kept

-- n is one more than the number of the last of the first arcs that leads from v, or 0
pub record IsLatest (arcs : List Arc) (v upto n : ℕ) : Type 0 where
  pub within : n ≤ upto
  pub here : (j : ℕ) → n ≡ suc j → IfSome (slice_get arcs j) (λ a. a.from ≡ v)
  pub none : (j : ℕ) → n ≤ j → j < upto → IfSome (slice_get arcs j) (λ a. a.from ≢ v)

-- beside each arc stands the one before it from the same vertex
pub record AreLinked (arcs : List Arc) (links : List ℕ) : Type 0 where
  pub same : length links ≡ length arcs
  pub before : (j : ℕ) → IfSome (slice_get arcs j) (λ a. IsLatest arcs a.from j (slice_index_or links j 0))

-- the first arcs are linked, and each vertex has the last of them that leads from it
pub record HasLinks (arcs : List Arc) (links : List ℕ) (s : ℕ → Vertex) (count : ℕ) : Type 0 where
  pub same : length links ≡ length arcs
  pub before : (j : ℕ) → j < count → IfSome (slice_get arcs j) (λ a. IsLatest arcs a.from j (slice_index_or links j 0))
  pub last : (v : ℕ) → IsLatest arcs v count (kept s v).last
