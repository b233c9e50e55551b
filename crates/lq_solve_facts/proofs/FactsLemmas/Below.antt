-- Terms below a number, one after another.
use Rattle.std.proofs.Common.{◌≡◌, ℕ, zero, suc, ◌+◌, ◌<◌, ◌≤◌, List, [], ◌∷◌, get_or, length, take, subst, arith}
use Rattle.std.proofs.Math.IntN.{ℤ, pos}
use Rattle.std.proofs.lemmas.List.{take_all}
use Rattle.lq_logic_rows.specs.Difference.{TermsBelow}

pub below_next : (n : ℕ) (parts : List (ℕ × ℤ)) (i : ℕ) → i < length parts → (get_or parts i (0, pos 0)).0 < n → TermsBelow n (take i parts) → TermsBelow n (take (i + 1) parts)
below_next n [] i w h k = absurd (omega (arith, w))
below_next n (x ∷ parts) zero w h k = (h, tt)
below_next n (x ∷ parts) (suc i) w h k = subst (λ j. TermsBelow n (take j (x ∷ parts))) next (k.0, below_next n parts i (omega (arith, w)) h k.1)
  where
    next : suc (i + 1) ≡ suc i + 1
    next = omega arith

pub below_all : (n : ℕ) (parts : List (ℕ × ℤ)) (i : ℕ) → length parts ≤ i → TermsBelow n (take i parts) → TermsBelow n parts
below_all n parts i w h = subst (TermsBelow n) (take_all i parts w) h
