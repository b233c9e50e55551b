-- Rings as lists which together hold each index once.
use Rattle.std.specs.Prelude.{◌≡◌, ℕ, zero, suc, ◌+◌, ◌<◌, List, [], ◌∷◌, length, slice_index, eqb, cond}

-- beginning at a, where `next` has the index after each, one meets xs and then stands at z
abbrev pub Meets : List ℕ → ℕ → List ℕ → ℕ → Type 0
Meets next a [] z = a ≡ z
Meets next a (x ∷ xs) z = (a ≡ x) × (x < length next) × Meets next (slice_index next x) xs z

-- a ring, read from one of its indexes on: after the last comes the first again
abbrev pub IsRing : List ℕ → List ℕ → Type 0
IsRing next [] = ⊥
IsRing next (x ∷ xs) = Meets next x (x ∷ xs) x

abbrev pub AreRings : List ℕ → List (List ℕ) → Type 0
AreRings next [] = Unit {0}
AreRings next (r ∷ rs) = IsRing next r × AreRings next rs

-- how often i is in a list
abbrev pub times : ℕ → List ℕ → ℕ
times i [] = 0
times i (x ∷ xs) = cond (eqb i x) 1 0 + times i xs

-- how often i is in the lists together
abbrev pub all_times : ℕ → List (List ℕ) → ℕ
all_times i [] = 0
all_times i (r ∷ rs) = times i r + all_times i rs

-- the rings, which together hold each index once
pub record IsRings (next : List ℕ) (rs : List (List ℕ)) : Type 0 where
  pub rings : AreRings next rs
  pub once : (i : ℕ) → i < length next → all_times i rs ≡ 1

-- two indexes are in one ring: going on from the one leads to the other
abbrev pub IsTogether : List ℕ → ℕ → ℕ → Type 0
IsTogether next i j = (i < length next) × ((xs : List ℕ) × Meets next i xs j)

-- n rings of one index each
abbrev pub alone : ℕ → List (List ℕ)
alone zero = []
alone (suc n) = (n ∷ []) ∷ alone n
