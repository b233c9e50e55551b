-- The state while an arc is being admitted: vertices fall to the offers that reach them, and are settled in the order of their falls.
use Rattle.std.specs.Prelude.{◌≡◌, ◌≢◌, ℕ, ℤ, pos, ◌+ℤ◌, ◌≤ℤ◌, ◌+◌, ◌<◌, ◌≤◌, ◌⊎◌, Bool, false, List, [], ◌∷◌, ◌++◌, length, slice_get, IfSome, Some, slice_index_or}
use Rattle.std.specs.Int.Signed.{◌<ℤ◌}
use Rattle.lq_prover_differences.specs.declared.arc.Arc.{Arc}
use Rattle.lq_prover_differences.specs.declared.vertex.Vertex.{Vertex}
use borrow.Author.Differences.{down}
use Rattle.lq_prover_differences.specs.Arcs.{Potentials, ArcHolds, Meets}
use Rattle.lq_prover_differences.specs.Range.{InRange}

abbrev pub blank : Vertex
blank = record { kept = record { value = pos 0; last = 0; touched = false }; next = pos 0; parent = 0 }

abbrev pub vertex_at : List Vertex → ℕ → Vertex
vertex_at vertices v = slice_index_or vertices v blank

abbrev pub order_at : List ℕ → ℕ → ℕ
order_at order v = slice_index_or order v 0

-- the potentials before, and those that are offered
abbrev pub values : (ℕ → Vertex) → Potentials
values s v = (s v).kept.value

abbrev pub nexts : (ℕ → Vertex) → Potentials
nexts s v = (s v).next

-- whether an arc that was admitted names it
abbrev pub touched : (ℕ → Vertex) → ℕ → Bool
touched s v = (s v).kept.touched

-- nothing is offered it, and it isn't settled
abbrev pub AtRest : (ℕ → Vertex) → (ℕ → ℕ) → ℕ → Type 0
AtRest s order v = (nexts s v ≡ values s v) × (order v ≡ 0)

abbrev pub IsListed : List ℕ → ℕ → Type 0
IsListed fallen v = (i : ℕ) × (slice_get fallen i ≡ Some v)

-- each other vertex is at rest
abbrev pub AreListed : List ℕ → (ℕ → Vertex) → (ℕ → ℕ) → Type 0
AreListed fallen s order = (v : ℕ) → IsListed fallen v ⊎ AtRest s order v

-- listed at the place `from` or behind it
abbrev pub IsListedFrom : ℕ → List ℕ → ℕ → Type 0
IsListedFrom from fallen v = (i : ℕ) × (from ≤ i) × (slice_get fallen i ≡ Some v)

-- each other vertex is at rest, and those that fell and aren't settled are listed behind the first `settled`
pub record HasFront (fallen : List ℕ) (settled : ℕ) (s : ℕ → Vertex) (order : ℕ → ℕ) : Type 0 where
  pub listed : AreListed fallen s order
  pub within : settled ≤ length fallen
  pub behind : (v : ℕ) → order v ≡ 0 → IsListedFrom settled fallen v ⊎ (nexts s v ≡ values s v)

abbrev pub AllBelow : List ℕ → ℕ → Type 0
AllBelow fallen n = (i : ℕ) → IfSome (slice_get fallen i) (λ v. v < n)

-- the offer by which t fell: by an arc from the vertex at the top, or from one that was settled, before t if t is settled too
pub record IsCaused (arcs : List Arc) (top : ℕ) (s : ℕ → Vertex) (order : ℕ → ℕ) (t : ℕ) : Type 0 where
  pub arc : Arc
  pub found : slice_get arcs (s t).parent ≡ Some arc
  pub to : arc.to ≡ t
  pub tight : (s t).next ≡ (s arc.from).next +ℤ arc.cost
  pub source : (arc.from ≡ top) ⊎ ((0 < order arc.from) × ((order t ≡ 0) ⊎ (order arc.from < order t)))

-- the arc that is being admitted leads from the vertex at the top; a vertex's order is 0 until it is settled. The arcs from `at` from
-- the number `upto` on were offered, and those from each other vertex that is settled
pub record IsPass (arcs : List Arc) (top gap : ℕ) (s : ℕ → Vertex) (order : ℕ → ℕ) (count at upto : ℕ) : Type 0 where
  pub fell : (t : ℕ) → nexts s t ≤ℤ values s t
  pub near : (t : ℕ) → values s t ≤ℤ (nexts s t +ℤ pos gap)
  pub most : (q : Potentials) → Meets q arcs → ((t : ℕ) → q t ≤ℤ values s t) → (t : ℕ) → q t ≤ℤ nexts s t
  pub top_stays : nexts s top ≡ values s top
  pub top_out : order top ≡ 0
  pub held : (k : ℕ) → IfSome (slice_get arcs k) (λ a. ArcHolds (values s) a ⊎ ((a.from ≡ top) × ArcHolds (nexts s) a))
  pub caused : (t : ℕ) → nexts s t <ℤ values s t → IsCaused arcs top s order t
  pub counted : (t : ℕ) → order t ≤ count
  pub lowered : (t : ℕ) → 0 < order t → nexts s t <ℤ values s t
  pub sooner : (u t : ℕ) → 0 < order u → order t ≡ 0 → (nexts s u +ℤ values s t) ≤ℤ (nexts s t +ℤ values s u)
  pub latest : 0 < order at → (t : ℕ) → 0 < order t → (nexts s t +ℤ values s at) ≤ℤ (nexts s at +ℤ values s t)
  pub done : (k : ℕ) → IfSome (slice_get arcs k) (λ a. 0 < order a.from → (a.from ≡ at → upto ≤ k) → ArcHolds (nexts s) a)

-- an unsettled vertex that fell, as far as any
pub record IsLeast (s : ℕ → Vertex) (order : ℕ → ℕ) (v : ℕ) : Type 0 where
  pub unsettled : order v ≡ 0
  pub falls : nexts s v <ℤ values s v
  pub least : (t : ℕ) → order t ≡ 0 → (nexts s v +ℤ values s t) ≤ℤ (nexts s t +ℤ values s v)

abbrev pub NoneFalls : (ℕ → Vertex) → (ℕ → ℕ) → Type 0
NoneFalls s order = (t : ℕ) → order t ≡ 0 → values s t ≤ℤ nexts s t

-- the arc's offer would let the vertex at the top fall
pub record IsClosing (top : ℕ) (s : ℕ → Vertex) (order : ℕ → ℕ) (a : Arc) : Type 0 where
  pub to : a.to ≡ top
  pub source : (a.from ≡ top) ⊎ (0 < order a.from)
  pub falls : (nexts s a.from +ℤ a.cost) <ℤ nexts s top

abbrev pub AllInRange : List Arc → ℕ → Type 0
AllInRange arcs n = (k : ℕ) → IfSome (slice_get arcs k) (λ a. (a.from < n) × (a.to < n))

-- no potential is larger in size than n, no cost is above it, and no vertex fell farther
pub record IsSized (n gap : ℕ) (arcs : List Arc) (p : Potentials) : Type 0 where
  pub above : (t : ℕ) → p t ≤ℤ pos n
  pub below : (t : ℕ) → pos 0 ≤ℤ (p t +ℤ pos n)
  pub costs : (k : ℕ) → IfSome (slice_get arcs k) (λ a. a.cost ≤ℤ pos n)
  pub gap_in : gap ≤ n

-- the greatest potentials at most p that meet the arcs
pub record IsNext (arcs : List Arc) (p next : Potentials) : Type 0 where
  pub meets : Meets next arcs
  pub fell : (t : ℕ) → next t ≤ℤ p t
  pub most : (q : Potentials) → Meets q arcs → ((t : ℕ) → q t ≤ℤ p t) → (t : ℕ) → q t ≤ℤ next t

-- the state in which the arc of the number `closing` lets the vertex at the top fall
pub record IsStuck (arcs : List Arc) (top closing : ℕ) (s : ℕ → Vertex) (order : ℕ → ℕ) : Type 0 where
  pub caused : (t : ℕ) → nexts s t <ℤ values s t → IsCaused arcs top s order t
  pub lowered : (t : ℕ) → 0 < order t → nexts s t <ℤ values s t
  pub top_out : order top ≡ 0
  pub closes : IfSome (slice_get arcs closing) (IsClosing top s order)
  pub is_arc : closing < length arcs

-- the arcs but the last are met, with no two potentials farther apart than m, no cost is above n, and m with the fall of the last is at
-- most n
pub record IsNarrow (m n : ℕ) (front : List Arc) (last : Arc) (p : Potentials) : Type 0 where
  pub meets : Meets p front
  pub range : InRange p m
  pub costs : (k : ℕ) → IfSome (slice_get (front ++ last ∷ []) k) (λ a. a.cost ≤ℤ pos n)
  pub room : m + down last.cost ≤ n

-- one vertex falls to an offer
pub record Falls (s t : ℕ → Vertex) (v k : ℕ) (offer : ℤ) : Type 0 where
  pub kept : (u : ℕ) → values t u ≡ values s u
  pub here : nexts t v ≡ offer
  pub parent : (t v).parent ≡ k
  pub others : (u : ℕ) → u ≢ v → t u ≡ s u
