-- The rows that stand, as edges, and the arcs that they give.
use Rattle.std.specs.Prelude.{◌≢◌, ℕ, zero, suc, ℤ, pos, negsuc, ◌-ℤ◌, ◌+◌, ◌<◌, Bool, true, false, if◌then◌else◌, nat_lt, List, [], ◌∷◌, ◌++◌, unsigned_abs}
use Rattle.lq_logic_rows.specs.Row.{Row}
use Rattle.lq_logic_rows.specs.Contradiction.{Tagged}
use Rattle.lq_prover_differences.specs.declared.arc.Arc.{Arc}
use Rattle.lq_prover_differences.specs.declared.arc.Edge.{Edge}

-- "to minus from" over the terms: vertex 0 is the number 0, vertex t + 1 is term t
abbrev pub parts_of : ℕ → ℕ → List (ℕ × ℤ)
parts_of zero zero = []
parts_of zero (suc t) = (t, pos 1) ∷ []
parts_of (suc u) zero = (u, negsuc 0) ∷ []
parts_of (suc u) (suc t) = if nat_lt u t then (u, negsuc 0) ∷ (t, pos 1) ∷ [] else (t, pos 1) ∷ (u, negsuc 0) ∷ []

abbrev pub row_of : Edge → Row
row_of e = record { parts = parts_of e.from e.to; constant = e.weight; equal = e.equal }

abbrev pub standing_of : List Edge → Tagged
standing_of [] = []
standing_of (e ∷ edges) = (e.tag, row_of e) ∷ standing_of edges

abbrev pub forward : Edge → Arc
forward e = record { tag = e.tag; from = e.from; to = e.to; cost = pos 0 -ℤ e.weight; forward = true }

abbrev pub backward : Edge → Arc
backward e = record { tag = e.tag; from = e.to; to = e.from; cost = e.weight; forward = false }

abbrev pub arcs_by : Edge → Bool → List Arc
arcs_by e true = forward e ∷ backward e ∷ []
arcs_by e false = forward e ∷ []

abbrev pub arcs_of : List Edge → List Arc
arcs_of [] = []
arcs_of (e ∷ edges) = arcs_by e e.equal ++ arcs_of edges

-- the sum of the sizes of the constants
abbrev pub sizes : List Edge → ℕ
sizes [] = 0
sizes (e ∷ edges) = unsigned_abs e.weight + sizes edges

abbrev pub EdgesInRange : List Edge → ℕ → Type 0
EdgesInRange [] n = Unit {0}
EdgesInRange (e ∷ edges) n = (e.from < n) × (e.to < n) × EdgesInRange edges n

-- no tag stands twice
abbrev pub HasNoTag : ℕ → List Edge → Type 0
HasNoTag tag [] = Unit {0}
HasNoTag tag (e ∷ edges) = (e.tag ≢ tag) × HasNoTag tag edges

abbrev pub TagsApart : List Edge → Type 0
TagsApart [] = Unit {0}
TagsApart (e ∷ edges) = HasNoTag e.tag edges × TagsApart edges
