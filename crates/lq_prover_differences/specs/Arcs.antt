-- Potentials, a number for each vertex, and the arcs that bound them.
use Rattle.std.specs.Prelude.{◌≡◌, ℕ, ℤ, pos, ◌+ℤ◌, ◌≤ℤ◌, Bool, false, List, [], ◌∷◌, ◌+◌, slice_get, IfSome}
use borrow.Author.Differences.{down}
use Rattle.lq_prover_differences.specs.declared.arc.Arc.{Arc}

abbrev pub Potentials : Type 0
Potentials = ℕ → ℤ

abbrev pub ArcHolds : Potentials → Arc → Type 0
ArcHolds q a = q a.to ≤ℤ (q a.from +ℤ a.cost)

abbrev pub Meets : Potentials → List Arc → Type 0
Meets q arcs = (k : ℕ) → IfSome (slice_get arcs k) (ArcHolds q)

-- The potentials meet the arcs, at most 0 where no equation placed the vertex; none that meet them so are greater anywhere; and what
-- the vertices that were placed may have goes by the others.
pub record IsGreatest (placed : ℕ → Bool) (arcs : List Arc) (p : Potentials) : Type 0 where
  pub meets : Meets p arcs
  pub low : (v : ℕ) → placed v ≡ false → p v ≤ℤ pos 0
  pub greatest : (q : Potentials) → Meets q arcs → ((v : ℕ) → placed v ≡ false → q v ≤ℤ pos 0) → (v : ℕ) → q v ≤ℤ p v
  pub fixed : (q r : Potentials) → Meets q arcs → Meets r arcs → ((v : ℕ) → placed v ≡ false → q v ≤ℤ r v) → (v : ℕ) → q v ≤ℤ r v

-- the sum of the sizes of the costs below 0
abbrev pub falls : List Arc → ℕ
falls [] = 0
falls (a ∷ arcs) = down a.cost + falls arcs
