-- Whole numbers by sign and size.
use Rattle.std.specs.Prelude.{ℕ, ℤ, pos, negsuc, Bool, true, false, neg_ℤ}

abbrev pub signed : Bool → ℕ → ℤ
signed true n = neg_ℤ (pos n)
signed false n = pos n

-- just one of the two is below 0
abbrev pub signs_differ : ℤ → ℤ → Bool
signs_differ (pos n) (pos m) = false
signs_differ (pos n) (negsuc m) = true
signs_differ (negsuc n) (pos m) = true
signs_differ (negsuc n) (negsuc m) = false
