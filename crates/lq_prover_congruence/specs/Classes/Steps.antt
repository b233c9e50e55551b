-- What was done, and the least congruence over the merges.
use Rattle.std.specs.Prelude.{◌≡◌, ℕ, zero, suc, ◌<◌, ◌⊎◌, List, [], ◌∷◌, length, slice_index}
use Rattle.lq_prover_congruence.specs.Classes.Terms.{Term}
use Rattle.lq_prover_congruence.specs.declared.classes.head.Head.{Head}
use Rattle.lq_prover_congruence.specs.declared.classes.head.Head.TheVariants.{Symbol, Length, Measure}
use Rattle.lq_prover_congruence.specs.declared.classes.steps.Step.{Step}
use Rattle.lq_prover_congruence.specs.declared.classes.steps.Step.TheVariants.{Added, Merged, Differed}

-- the added terms, each under the number of those before it
abbrev pub terms_of : List Step → List Term
terms_of [] = []
terms_of (Added h xs ∷ ss) = (h, xs) ∷ terms_of ss
terms_of (Merged a b r ∷ ss) = terms_of ss
terms_of (Differed a b ∷ ss) = terms_of ss

-- the term at a place, and a length of nothing past the end
abbrev pub term_at : List Term → ℕ → Term
term_at [] i = (Length, [])
term_at (t ∷ ts) zero = t
term_at (t ∷ ts) (suc i) = term_at ts i

abbrev pub IsTerm : List Step → ℕ → Term → Type 0
IsTerm steps i t = (i < length (terms_of steps)) × (term_at (terms_of steps) i ≡ t)

-- a name, and no application
abbrev pub IsNamed : Head → Type 0
IsNamed (Symbol x) = Unit {0}
IsNamed Length = ⊥
IsNamed (Measure f) = ⊥

-- the two were merged for this reason
abbrev pub IsMerge : List Step → ℕ → ℕ → ℕ → Type 0
IsMerge [] a b r = ⊥
IsMerge (s ∷ ss) a b r = (s ≡ Merged a b r) ⊎ IsMerge ss a b r

-- the two were told to differ
abbrev pub IsDifference : List Step → ℕ → ℕ → Type 0
IsDifference [] a b = ⊥
IsDifference (s ∷ ss) a b = (s ≡ Differed a b) ⊎ IsDifference ss a b

-- the least relation that holds each merge, is an equivalence, and holds two applications of one head whose arguments it holds
pub data IsSame (steps : List Step) : ℕ → ℕ → Type 0 where
  merged : (a b reason : ℕ) → IsMerge steps a b reason → IsSame steps a b
  itself : (a : ℕ) → IsSame steps a a
  turned : (a b : ℕ) → IsSame steps a b → IsSame steps b a
  onward : (a b c : ℕ) → IsSame steps a b → IsSame steps b c → IsSame steps a c
  applied : (i j : ℕ) (h : Head) (xs ys : List ℕ) → IsTerm steps i (h, xs) → IsTerm steps j (h, ys) → length xs ≡ length ys
      → ((k : ℕ) → k < length xs → IsSame steps (slice_index xs k) (slice_index ys k)) → IsSame steps i j
