-- Whole numbers among the rationals: sums, products, negation and order are theirs, and no two become one.
-- Example: `three_below_four`.
use Rattle.std.proofs.Common.{◌≡◌, arith, ap, ◌∙◌}
use Rattle.std.proofs.Math.IntN.{ℤ, pos, ◌+ℤ◌, ◌-ℤ◌, ◌*ℤ◌, neg_ℤ}
use Rattle.std.specs.Int.Signed.{◌≤ℤ◌, ◌<ℤ◌}
use Rattle.std.proofs.lemmas.Int.{ints, by_lt_z}
use Rattle.lq_base_numbers.specs.Rationals.Pairs.{pair_sum, pair_difference, pair_product}
use Rattle.lq_base_numbers.specs.Rationals.Rational.{whole, same_class, ◌+ℚ◌, ◌-ℚ◌, ◌*ℚ◌, neg_ℚ, sum-class, difference-class, product-class}
use Rattle.lq_base_numbers.specs.Rationals.RationalOrder.{◌≤ℚ◌, ◌<ℚ◌, at_most_from_cross, cross_from_at_most, cross_from_ratio}

pub whole-sum : (a b : ℤ) → whole a +ℚ whole b ≡ whole (a +ℤ b)
whole-sum a b = sum-class (a, 0) (b, 0) ∙ same_class (pair_sum (a, 0) (b, 0)) (a +ℤ b, 0) (omega (arith, ints))

pub whole-difference : (a b : ℤ) → whole a -ℚ whole b ≡ whole (a -ℤ b)
whole-difference a b = difference-class (a, 0) (b, 0) ∙ same_class (pair_difference (a, 0) (b, 0)) (a -ℤ b, 0) (omega (arith, ints))

pub whole-product : (a b : ℤ) → whole a *ℚ whole b ≡ whole (a *ℤ b)
whole-product a b = product-class (a, 0) (b, 0) ∙ same_class (pair_product (a, 0) (b, 0)) (a *ℤ b, 0) (omega (arith, ints))

pub whole_at_most : (a b : ℤ) → a ≤ℤ b → whole a ≤ℚ whole b
whole_at_most a b h = at_most_from_cross a b 1 1 (omega arith) (omega arith) (omega (arith, ints))

pub at_most_of_whole : (a b : ℤ) → whole a ≤ℚ whole b → a ≤ℤ b
at_most_of_whole a b h = let s = cross_from_at_most a b 1 1 (omega arith) (omega arith) h in omega (arith, ints)

pub whole_below : (a b : ℤ) → a <ℤ b → whole a <ℚ whole b
whole_below a b h k = let s = at_most_of_whole b a k in absurd (omega (arith, ints))

pub below_of_whole : (a b : ℤ) → whole a <ℚ whole b → a <ℤ b
below_of_whole a b h = by_lt_z {P = a <ℤ b} a b (λ l. l) (λ l. absurd (h (whole_at_most b a l)))

pub whole_once : (a b : ℤ) → whole a ≡ whole b → a ≡ b
whole_once a b h = let s = cross_from_ratio a b 1 1 (omega arith) (omega arith) h in omega (arith, ints)

pub whole-negation : (a : ℤ) → neg_ℚ (whole a) ≡ whole (neg_ℤ a)
whole-negation a = whole-difference (pos 0) a ∙ ap whole (omega (arith, ints))

-- an example of use
three_below_four : whole (pos 3) <ℚ whole (pos 4)
three_below_four = whole_below (pos 3) (pos 4) (omega (arith, ints))
