-- The trail: what was kept of vertices before they changed, oldest first.
use Rattle.std.specs.Prelude.{◌≡◌, ◌==◌, if◌then◌else◌, ℕ, ◌<◌, ◌≤◌, ◌++◌, false, List, [], ◌∷◌, length, take, drop, slice_get, slice_index_or, IfSome}
use Rattle.lq_prover_differences.specs.declared.arc.Arc.{Arc}
use Rattle.lq_prover_differences.specs.declared.vertex.Kept.{Kept}
use Rattle.lq_prover_differences.specs.declared.trail.Note.{Note}
use Rattle.lq_prover_differences.specs.declared.graph.Start.{Start}
use Rattle.lq_prover_differences.specs.Solving.{IsSolved, IsUnnamed}
use Rattle.lq_prover_differences.specs.Links.{IsLatest}

-- what the first of these notes has of the vertex, and what is kept of it now where none names it
abbrev pub first_of : List Note → ℕ → Kept → Kept
first_of [] v now = now
first_of (note ∷ notes) v now = if note.vertex == v then note.kept else first_of notes v now

abbrev pub notes_of : (ℕ → Kept) → List ℕ → List Note
notes_of s [] = []
notes_of s (v ∷ places) = (record { vertex = v; kept = s v }) ∷ notes_of s places

abbrev pub NotesBelow : List Note → ℕ → Type 0
NotesBelow [] n = Unit {0}
NotesBelow (note ∷ notes) n = (note.vertex < n) × NotesBelow notes n

-- notes came that lead from what is kept now back to what was kept before
pub record IsTrailed (n : ℕ) (old new : List Note) (before now : ℕ → Kept) : Type 0 where
  pub more : List Note
  pub is : new ≡ old ++ more
  pub below : NotesBelow more n
  pub back : (v : ℕ) → first_of more v (now v) ≡ before v

-- the first arcs are solved: what is kept has greatest potentials of them, for each vertex the last of them that leads from it, and
-- whether one names it
pub record IsReached (arcs : List Arc) (links : List ℕ) (count : ℕ) (s : ℕ → Kept) : Type 0 where
  pub solved : IsSolved (take count arcs) (λ v. (s v).value)
  pub unnamed : (v : ℕ) → (s v).touched ≡ false → IsUnnamed (take count arcs) v
  pub before : (j : ℕ) → j < count → IfSome (slice_get arcs j) (λ a. IsLatest arcs a.from j (slice_index_or links j 0))
  pub last : (v : ℕ) → IsLatest arcs v count (s v).last

abbrev pub start_at : List Start → ℕ → Start
start_at starts i = slice_index_or starts i (record { arcs = 0; trail = 0 })

-- what was kept at a start, where this is kept now
abbrev pub kept_at : List Note → Start → (ℕ → Kept) → ℕ → Kept
kept_at trail start s v = first_of (drop start.trail trail) v (s v)

-- from what is kept now the trail leads back to each start, where the arcs of that time were solved
pub record HasStarts (starts : List Start) (arcs : List Arc) (links : List ℕ) (trail : List Note) (s : ℕ → Kept) : Type 0 where
  pub arcs_in : (i : ℕ) → i < length starts → (start_at starts i).arcs ≤ length arcs
  pub trail_in : (i : ℕ) → i < length starts → (start_at starts i).trail ≤ length trail
  pub arcs_rise : (i j : ℕ) → i < j → j < length starts → (start_at starts i).arcs ≤ (start_at starts j).arcs
  pub trail_rises : (i j : ℕ) → i < j → j < length starts → (start_at starts i).trail ≤ (start_at starts j).trail
  pub reached : (i : ℕ) → i < length starts → IsReached arcs links (start_at starts i).arcs (kept_at trail (start_at starts i) s)
