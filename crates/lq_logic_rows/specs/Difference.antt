-- Difference rows, and rows over few terms.
use Rattle.std.specs.Prelude.{◌≡◌, ℕ, ℤ, pos, negsuc, ◌<◌, ◌⊎◌, List, [], ◌∷◌}

-- a difference row: at most two terms, one with the coefficient 1 or -1, two with 1 and -1
abbrev pub IsDifference : List (ℕ × ℤ) → Type 0
IsDifference [] = Unit {0}
IsDifference (x ∷ []) = (x.1 ≡ pos 1) ⊎ (x.1 ≡ negsuc 0)
IsDifference (x ∷ y ∷ []) = ((x.1 ≡ pos 1) × (y.1 ≡ negsuc 0)) ⊎ ((x.1 ≡ negsuc 0) × (y.1 ≡ pos 1))
IsDifference (x ∷ y ∷ z ∷ more) = ⊥

abbrev pub TermsBelow : ℕ → List (ℕ × ℤ) → Type 0
TermsBelow n [] = Unit {0}
TermsBelow n (x ∷ parts) = (x.0 < n) × TermsBelow n parts
