-- The entries of a configuration are quotients of whole numbers of bounded size, with one denominator.
use Rattle.std.specs.Prelude.{◌≡◌, if◌then◌else◌, ◌==◌, ℕ, ℤ, zero, suc, pos, ◌+◌, ◌<◌, ◌≤◌, List, [], ◌∷◌, unsigned_abs}
use Rattle.std.proofs.Math.IntN.{◌+ℤ◌}
use Rattle.lq_base_numbers.specs.Rationals.Rational.{whole, ◌*ℚ◌}
use Rattle.lq_logic_rows.specs.Row.{Row}
use Rattle.lq_logic_rows.specs.Forms.{Parts}
use Rattle.lq_prover_pivots.specs.Pivots.Rows.{Variables, size, form}
use Rattle.lq_prover_pivots.specs.Pivots.Configurations.{Configuration, Free, Basic, IsConfiguration}
use Rattle.lq_prover_pivots.specs.Cramer.Sizes.{WithinWhole, limit}

-- what the parts of a term sum to
abbrev pub coefficient : Parts → ℕ → ℤ
coefficient [] t = pos 0
coefficient (part ∷ parts) t = (if part.0 == t then part.1 else pos 0) +ℤ coefficient parts t

-- the terms come first, m forms follow, and no coefficient is of size more than c
pub record IsSized (vs : Variables) (m c : ℕ) : Type 0 where
  pub count : size vs ≡ vs.terms + m
  pub named : (t : ℕ) → t < vs.terms → form vs t ≡ (t, pos 1) ∷ []
  pub sized : (k t : ℕ) → k < size vs → t < vs.terms → unsigned_abs (coefficient (form vs k) t) ≤ c

-- one whole number, not 0, by which each entry becomes whole, all of these of size at most the limit
pub record HasDenominator (vs : Variables) (c : Configuration) (most : ℕ) : Type 0 where
  pub denominator : ℤ
  pub some : ¬ (denominator ≡ pos 0)
  pub within : unsigned_abs denominator ≤ most
  pub entries : (k j : ℕ) → Basic vs c k → Free vs c j → WithinWhole most (c.entry k j *ℚ whole denominator)

abbrev pub smaller : ℕ → ℕ → ℕ
smaller zero n = 0
smaller (suc m) zero = 0
smaller (suc m) (suc n) = suc (smaller m n)

-- the limit is k! * c^k, for the smaller k of the number of forms and the number of terms
abbrev pub EntriesAreQuotients : Type 0
EntriesAreQuotients =
    (vs : Variables) (listed : List Row) (m c : ℕ) (conf : Configuration) → 1 ≤ c → IsSized vs m c → IsConfiguration vs listed conf
    → HasDenominator vs conf (limit (smaller m vs.terms) c)
