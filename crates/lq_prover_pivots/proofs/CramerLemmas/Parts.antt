-- Where a form names each term once, its coefficients are those of its parts.
use Rattle.std.proofs.Common.{◌≡◌, ◌≢◌, ℕ, ℤ, pos, ◌≤◌, arith, refl, sym, ap, subst, ◌∙◌, ◌==◌, if◌then◌else◌, [], ◌∷◌, unsigned_abs}
use Rattle.std.proofs.Math.IntN.{◌+ℤ◌}
use Rattle.std.proofs.lemmas.Int.{ints}
use Rattle.lq_logic_rows.specs.Forms.{Parts}
use Rattle.lq_prover_pivots.specs.Cramer.Entries.{coefficient}
use Rattle.lq_prover_pivots.proofs.CramerLemmas.Places.{eqb_by}

abbrev pub IsAbsent : ℕ → Parts → Type 0
IsAbsent t [] = Unit {0}
IsAbsent t (part ∷ parts) = (part.0 ≢ t) × IsAbsent t parts

abbrev pub NamesOnce : Parts → Type 0
NamesOnce [] = Unit {0}
NamesOnce (part ∷ parts) = IsAbsent part.0 parts × NamesOnce parts

abbrev pub AllWithin : ℕ → Parts → Type 0
AllWithin c [] = Unit {0}
AllWithin c (part ∷ parts) = (unsigned_abs part.1 ≤ c) × AllWithin c parts

left_zero : (a b : ℤ) → a ≡ pos 0 → a +ℤ b ≡ b
left_zero a b e = omega (arith, ints)

right_zero : (a b : ℤ) → b ≡ pos 0 → a +ℤ b ≡ a
right_zero a b e = omega (arith, ints)

absent : (t : ℕ) (parts : Parts) → IsAbsent t parts → coefficient parts t ≡ pos 0
absent t [] h = refl
absent t (part ∷ parts) h =
    left_zero (if part.0 == t then part.1 else pos 0) (coefficient parts t)
    (eqb_by part.0 t (λ q e. absurd (h.0 e)) (λ q e. ap (λ b. if b then part.1 else pos 0) q))
    ∙ absent t parts h.1

pub coefficient_within : (c t : ℕ) (parts : Parts) → NamesOnce parts → AllWithin c parts → unsigned_abs (coefficient parts t) ≤ c
coefficient_within c t [] h w = omega arith
coefficient_within c t (part ∷ parts) h w =
    eqb_by part.0 t
    (λ q e. subst (λ z. unsigned_abs z ≤ c)
    (sym (right_zero (if part.0 == t then part.1 else pos 0) (coefficient parts t) (absent t parts (subst (λ k. IsAbsent k parts) e h.0))
    ∙ ap (λ b. if b then part.1 else pos 0) q))
    w.0)
    (λ q e. subst (λ z. unsigned_abs z ≤ c)
    (sym (left_zero (if part.0 == t then part.1 else pos 0) (coefficient parts t) (ap (λ b. if b then part.1 else pos 0) q)))
    (coefficient_within c t parts h.1 w.1))
