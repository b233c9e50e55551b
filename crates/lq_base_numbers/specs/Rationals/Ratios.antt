-- The operations on fractions n / d by numerators and denominators. Example: `two_thirds`.
use Rattle.std.proofs.Common.{◌≡◌, ℕ, zero, suc, ◌*◌, ◌-◌, ◌<◌, arith, sym, ap, ap₂, subst, ◌∙◌}
use Rattle.std.proofs.Math.IntN.{ℤ, pos, ◌+ℤ◌, ◌-ℤ◌, ◌*ℤ◌, neg_ℤ}
use Rattle.std.proofs.lemmas.Int.{ints}
use Rattle.lq_base_numbers.specs.Rationals.Pairs.{times}
use Rattle.lq_base_numbers.specs.Rationals.Rational.{class, ratio, whole, ◌*ℚ◌, ◌+ℚ◌, ◌-ℚ◌, neg_ℚ, product-class, sum-class, difference-class}
use Rattle.lq_base_numbers.specs.Rationals.RationalOrder.{cross_from_ratio, ratio_from_cross}

times_less : (b d : ℕ) → 0 < b → 0 < d → times (b - 1) (d - 1) ≡ b * d - 1
times_less zero d p q = absurd (omega arith)
times_less (suc b) zero p q = absurd (omega arith)
times_less (suc b) (suc d) p q =
    let e : suc b - 1 ≡ b = omega arith in let f : suc d - 1 ≡ d = omega arith in rw (e, f) (omega arith)

suc_less : (b : ℕ) → 0 < b → suc (b - 1) ≡ b
suc_less b p = omega arith

pub ratio-product : (a c : ℤ) (b d : ℕ) → 0 < b → 0 < d → ratio a b *ℚ ratio c d ≡ ratio (a *ℤ c) (b * d)
ratio-product a c b d p q =
    product-class (a, b - 1) (c, d - 1) ∙ ap (λ x. class (a *ℤ c, x)) (times_less b d p q)

pub ratio-sum : (a c : ℤ) (b d : ℕ) → 0 < b → 0 < d → ratio a b +ℚ ratio c d ≡ ratio (a *ℤ pos d +ℤ c *ℤ pos b) (b * d)
ratio-sum a c b d p q =
    sum-class (a, b - 1) (c, d - 1)
    ∙ ap (λ x. class (a *ℤ pos (suc (d - 1)) +ℤ c *ℤ pos (suc (b - 1)), x)) (times_less b d p q)
    ∙ ap₂ (λ x y. class (a *ℤ pos y +ℤ c *ℤ pos x, b * d - 1)) (suc_less b p) (suc_less d q)

pub ratio-difference : (a c : ℤ) (b d : ℕ) → 0 < b → 0 < d → ratio a b -ℚ ratio c d ≡ ratio (a *ℤ pos d -ℤ c *ℤ pos b) (b * d)
ratio-difference a c b d p q =
    difference-class (a, b - 1) (c, d - 1)
    ∙ ap (λ x. class (a *ℤ pos (suc (d - 1)) -ℤ c *ℤ pos (suc (b - 1)), x)) (times_less b d p q)
    ∙ ap₂ (λ x y. class (a *ℤ pos y -ℤ c *ℤ pos x, b * d - 1)) (suc_less b p) (suc_less d q)

pub ratio-negation : (a : ℤ) (b : ℕ) → 0 < b → neg_ℚ (ratio a b) ≡ ratio (neg_ℤ a) b
ratio-negation a b p =
    ratio-difference (pos 0) a 1 b (omega arith) p
    ∙ ratio_from_cross (pos 0 *ℤ pos b -ℤ a *ℤ pos 1) (neg_ℤ a) (1 * b) b (omega arith) p (same (omega arith))
  where
    same : 1 * b ≡ b → (pos 0 *ℤ pos b -ℤ a *ℤ pos 1) *ℤ pos b ≡ neg_ℤ a *ℤ pos (1 * b)
    same e = subst (λ x. (pos 0 *ℤ pos b -ℤ a *ℤ pos 1) *ℤ pos b ≡ neg_ℤ a *ℤ pos x) (sym e) (ap (λ x. x *ℤ pos b) (omega (arith, ints)))

-- a fraction is 0 where its numerator is
pub ratio_zero : (n : ℤ) (d : ℕ) → 0 < d → ratio n d ≡ whole (pos 0) → n ≡ pos 0
ratio_zero n d p e = let c = cross_from_ratio n (pos 0) d 1 p (omega arith) e in omega (arith, ints)

-- an example of use
two_thirds : ratio (pos 1) 3 +ℚ ratio (pos 1) 3 ≡ ratio (pos 2) 3
two_thirds =
    ratio-sum (pos 1) (pos 1) 3 3 (omega arith) (omega arith)
    ∙ ratio_from_cross (pos 6) (pos 2) 9 3 (omega arith) (omega arith) (omega (arith, ints))
