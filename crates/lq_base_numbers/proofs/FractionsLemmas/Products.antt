-- Products, quotients and negations of fractions in lowest terms, from what the code computes.
use Rattle.std.proofs.Common.{◌≡◌, ℕ, zero, suc, ◌*◌, ◌/◌, ◌<◌, ◌^◌, arith, refl, ap, ap₂, sym, subst, ◌∙◌, unsigned_abs, int_div, FitsSigned, Bool, true, false, not, ltb}
use Rattle.std.proofs.Math.IntN.{ℤ, pos, negsuc, ◌*ℤ◌, neg_ℤ}
use Rattle.std.proofs.Math.Nat.{mul-pos}
use Rattle.std.specs.Int.{IsGcd, w128}
use Rattle.std.proofs.lemmas.Int.{ints, to_z-of_z}
use mathlib.Core.Bool.{beq}
use Rattle.lq_base_numbers.specs.Rationals.Coprime.{Coprime}
use Rattle.lq_base_numbers.specs.Rationals.NumberForms.{HasNoForm, HasNoForm-from}
use Rattle.lq_base_numbers.specs.Rationals.LowestTerms.{IsLowest}
use Rattle.std.specs.Int.Signed.{lt_z}
use Rattle.lq_base_numbers.specs.Rationals.IntRing.{at, nat, ◌⊗◌, ring}
use Rattle.lq_base_numbers.specs.Rationals.Rational.{ratio, whole, ◌*ℚ◌, neg_ℚ}
use Rattle.lq_base_numbers.specs.Rationals.RationalQuotient.{◌/ℚ◌, /ℚ_once}
use Rattle.lq_base_numbers.specs.Rationals.RationalOrder.{ratio_from_cross}
use Rattle.lq_base_numbers.specs.Rationals.Ratios.{ratio-product, ratio-negation}
use Rattle.lq_base_numbers.specs.Rationals.Reduction.{IsReduced, neg_part, reduced, reduced_product}
use Rattle.lq_base_numbers.proofs.FractionsLemmas.Multiples.{read}
use Rattle.lq_base_numbers.specs.Fractions.Sign.{signed, signs_differ}

-- ---- sign and size
pub size_of_signed : (s : Bool) (n : ℕ) → unsigned_abs (signed s n) ≡ n
size_of_signed false n = refl
size_of_signed true zero = refl
size_of_signed true (suc n) = refl

pub size_fits : (s : Bool) (n : ℕ) → FitsSigned w128 (signed s n) → n < 2 ^ 128
size_fits false n f = omega (arith, f.sfits)
size_fits true zero f = omega arith
size_fits true (suc n) f = omega (arith, f.sfits)

signed-times : (s : Bool) (n d : ℕ) → signed s (n * d) ≡ signed s n *ℤ pos d
signed-times false n d = refl
signed-times true n d =
    let parts = neg_part n in let whole_parts = neg_part (n * d) in
    omega (arith, ints, whole_parts, ap (λ x. x * d) parts.0, ap (λ x. x * d) parts.1)

signed_cross : (s : Bool) (n m d e : ℕ) → n * d ≡ m * e → signed s n *ℤ pos d ≡ signed s m *ℤ pos e
signed_cross s n m d e h = sym (signed-times s n d) ∙ ap (signed s) h ∙ signed-times s m e

no_less : (n : ℕ) → ltb n 0 ≡ false
no_less n = grind arith

pub test_of_signs : (n m : ℤ) → not (beq (lt_z n (pos 0)) (lt_z m (pos 0))) ≡ signs_differ n m
test_of_signs (pos n) (pos m) = ap₂ (λ a b. not (beq a b)) (no_less n) (no_less m)
test_of_signs (pos n) (negsuc m) = ap (λ a. not (beq a true)) (no_less n)
test_of_signs (negsuc n) (pos m) = ap (λ a. not (beq true a)) (no_less m)
test_of_signs (negsuc n) (negsuc m) = refl

signed_sizes : (n m : ℤ) → signed (signs_differ n m) (unsigned_abs n * unsigned_abs m) ≡ n *ℤ m
signed_sizes (pos n) (pos m) = refl
signed_sizes (pos n) (negsuc m) = omega (arith, ints)
signed_sizes (negsuc n) (pos m) = omega (arith, ints)
signed_sizes (negsuc n) (negsuc m) = omega (arith, ints)

size_moved : (n m : ℤ) → signed (signs_differ n m) (unsigned_abs n) *ℤ m ≡ n *ℤ pos (unsigned_abs m)
size_moved (pos n) (pos m) = refl
size_moved (pos n) (negsuc m) = let parts = neg_part n in omega (arith, ints, ap (λ x. x * suc m) parts.0, ap (λ x. x * suc m) parts.1)
size_moved (negsuc n) (pos m) = refl
size_moved (negsuc n) (negsuc m) = omega (arith, ints)

-- ---- a product, reduced crosswise
pub lowest_product : (s : Bool) (a b c d g h : ℕ) → 0 < b → 0 < d → Coprime a b → Coprime c d → IsGcd a d g → IsGcd c b h
    → IsLowest (ratio (signed s (a * c)) (b * d)) (signed s (a / g * (c / h))) (b / h * (d / g))
lowest_product s a b c d g h p q low low' left right =
    let r = reduced_product a b c d g h p q low low' left right in
    record {
      positive = r.positive;
      lowest = subst (λ n. Coprime n (b / h * (d / g))) (sym (size_of_signed s (a / g * (c / h)))) r.lowest;
      same = ratio_from_cross _ _ (b / h * (d / g)) (b * d) r.positive (mul-pos p q)
          (signed_cross s (a / g * (c / h)) (a * c) (b * d) (b / h * (d / g)) r.same);
    }

-- the same, from the size, the numerator and the denominator that the code has
pub lowest_product_by : (s : Bool) (a b c d g h z e : ℕ) (n : ℤ) → 0 < b → 0 < d → Coprime a b → Coprime c d → IsGcd a d g → IsGcd c b h
    → z ≡ a / g * (c / h) → FitsSigned w128 (signed s z) × (n ≡ signed s z) → e ≡ b / h * (d / g)
    → IsLowest (ratio (signed s (a * c)) (b * d)) (read n) e
lowest_product_by s a b c d g h z e n p q low low' left right is_z is_n is_e =
    let same : read n ≡ signed s (a / g * (c / h)) =
    to_z-of_z w128 n (subst (λ x. FitsSigned w128 x) (sym is_n.1) is_n.0) ∙ is_n.1 ∙ ap (signed s) is_z in
    subst (λ x. IsLowest (ratio (signed s (a * c)) (b * d)) (read n) x) (sym is_e)
    (subst (λ x. IsLowest (ratio (signed s (a * c)) (b * d)) x (b / h * (d / g))) (sym same) (lowest_product s a b c d g h p q low low' left right))

pub past_product_by : (s : Bool) (a b c d g h z e : ℕ) → 0 < b → 0 < d → Coprime a b → Coprime c d → IsGcd a d g → IsGcd c b h
    → z ≡ a / g * (c / h) → e ≡ b / h * (d / g) → ¬ (FitsSigned w128 (signed s z) × (e < 2 ^ 127)) → HasNoForm (ratio (signed s (a * c)) (b * d))
past_product_by s a b c d g h z e p q low low' left right is_z is_e past =
    HasNoForm-from _ _ _ (lowest_product s a b c d g h p q low low' left right)
    (λ f. past (subst (λ x. FitsSigned w128 (signed s x)) (sym is_z) f.0, subst (λ x. x < 2 ^ 127) (sym is_e) f.1))

-- ---- a fraction over its greatest common divisor
pub reduced_read : (n : ℤ) (d g : ℕ) (o : ℤ) (e : ℕ) → FitsSigned w128 n → FitsSigned w128 o → 0 < d → IsGcd (unsigned_abs (read n)) d g
    → o ≡ int_div (read n) (pos g) → e ≡ d / g → IsReduced n d (read o) e
reduced_read n d g o e f k p gcd is is_e =
    let r = reduced n d g p (subst (λ x. IsGcd (unsigned_abs x) d g) (to_z-of_z w128 n f) gcd) in
    let same = to_z-of_z w128 o k ∙ is ∙ ap (λ x. int_div x (pos g)) (to_z-of_z w128 n f) in
    subst (λ x. IsReduced n d (read o) x) (sym is_e) (subst (λ x. IsReduced n d x (d / g)) (sym same) r)

-- ---- negation
pub size_of_negation : (n : ℤ) → unsigned_abs (neg_ℤ n) ≡ unsigned_abs n
size_of_negation (pos zero) = refl
size_of_negation (pos (suc n)) = refl
size_of_negation (negsuc n) = refl

pub lowest_negation : (n : ℤ) (d : ℕ) → 0 < d → Coprime (unsigned_abs n) d → IsLowest (neg_ℚ (ratio n d)) (neg_ℤ n) d
lowest_negation n d p low = record {
  positive = p;
  lowest = subst (λ k. Coprime k d) (sym (size_of_negation n)) low;
  same = sym (ratio-negation n d p);
}

-- ---- what the sizes stand for
pub product_value : (n m : ℤ) (b d x y : ℕ) (s : Bool) → 0 < b → 0 < d → FitsSigned w128 n → FitsSigned w128 m
    → s ≡ signs_differ n m → x ≡ unsigned_abs (read n) → y ≡ unsigned_abs (read m) → ratio (signed s (x * y)) (b * d) ≡ ratio n b *ℚ ratio m d
product_value n m b d x y s p q f f' is_s is_x is_y =
    ap (λ z. ratio z (b * d))
    (ap₂ signed is_s (ap₂ (λ u v. u * v) (is_x ∙ ap unsigned_abs (to_z-of_z w128 n f)) (is_y ∙ ap unsigned_abs (to_z-of_z w128 m f'))) ∙ signed_sizes n m)
    ∙ sym (ratio-product n m b d p q)

pub size_some : (m : ℤ) (d y : ℕ) → 0 < d → FitsSigned w128 m → ¬ (ratio m d ≡ whole (pos 0)) → y ≡ unsigned_abs (read m) → 0 < y
size_some m d y q f some is_y = subst (λ k. 0 < k) (sym (is_y ∙ ap unsigned_abs (to_z-of_z w128 m f))) (above m some)
  where
    above : (m : ℤ) → ¬ (ratio m d ≡ whole (pos 0)) → 0 < unsigned_abs m
    above (pos zero) h = absurd (h (ratio_from_cross (pos 0) (pos 0) d 1 q (omega arith) (omega (arith, ints))))
    above (pos (suc n)) h = omega arith
    above (negsuc n) h = omega arith

pub quotient_value : (n m : ℤ) (b d x y : ℕ) (s : Bool) → 0 < b → 0 < d → FitsSigned w128 n → FitsSigned w128 m → ¬ (ratio m d ≡ whole (pos 0))
    → s ≡ signs_differ n m → x ≡ unsigned_abs (read n) → y ≡ unsigned_abs (read m) → ratio (signed s (x * d)) (b * y) ≡ ratio n b /ℚ ratio m d
quotient_value n m b d x y s p q f f' some is_s is_x is_y =
    ap₂ (λ z k. ratio (signed z (k * d)) (b * y)) is_s (is_x ∙ ap unsigned_abs (to_z-of_z w128 n f))
    ∙ ap (λ k. ratio (signed (signs_differ n m) (unsigned_abs n * d)) (b * k)) (is_y ∙ ap unsigned_abs (to_z-of_z w128 m f'))
    ∙ /ℚ_once (ratio n b) (ratio m d) _ some times_back
  where
    size_above : 0 < unsigned_abs m
    size_above = subst (λ k. 0 < k) (is_y ∙ ap unsigned_abs (to_z-of_z w128 m f')) (size_some m d y q f' some is_y)

    times_back : ratio (signed (signs_differ n m) (unsigned_abs n * d)) (b * unsigned_abs m) *ℚ ratio m d ≡ ratio n b
    times_back =
        ratio-product _ m (b * unsigned_abs m) d (mul-pos p size_above) q
        ∙ ratio_from_cross _ n (b * unsigned_abs m * d) b (mul-pos (mul-pos p size_above) q) p (crossed (signed (signs_differ n m) (unsigned_abs n)) (unsigned_abs m)
        (signed-times (signs_differ n m) (unsigned_abs n) d) (size_moved n m))
      where
        crossed : (k : ℤ) (z : ℕ) → signed (signs_differ n m) (unsigned_abs n * d) ≡ k *ℤ pos d → k *ℤ m ≡ n *ℤ pos z
            → (signed (signs_differ n m) (unsigned_abs n * d) *ℤ m) *ℤ pos b ≡ n *ℤ pos (b * z * d)
        crossed k z e h =
            ap (λ t. (t *ℤ m) *ℤ pos b) e ∙ ring (at k ⊗ nat d ⊗ at m ⊗ nat b) (at k ⊗ at m ⊗ nat d ⊗ nat b) (omega arith)
            ∙ ap (λ t. (t *ℤ pos d) *ℤ pos b) h ∙ ring (at n ⊗ nat z ⊗ nat d ⊗ nat b) (at n ⊗ nat (b * z * d)) (omega arith)

-- ---- lowest terms, by the sizes that the code has
pub size_lowest : (n : ℤ) (d x : ℕ) → FitsSigned w128 n → Coprime (unsigned_abs n) d → x ≡ unsigned_abs (read n) → Coprime x d
size_lowest n d x f low is = subst (λ k. Coprime k d) (sym (is ∙ ap unsigned_abs (to_z-of_z w128 n f))) low

pub negation_value : (n m : ℤ) (d : ℕ) → 0 < d → Coprime (unsigned_abs n) d → FitsSigned w128 n
    → FitsSigned w128 (neg_ℤ (read n)) × (m ≡ neg_ℤ (read n)) → ratio (read m) d ≡ neg_ℚ (ratio n d)
negation_value n m d p low f is =
    ap (λ k. ratio k d) (to_z-of_z w128 m (subst (λ x. FitsSigned w128 x) (sym is.1) is.0) ∙ is.1 ∙ ap neg_ℤ (to_z-of_z w128 n f))
    ∙ (lowest_negation n d p low).same

pub past_negation : (n : ℤ) (d : ℕ) → 0 < d → Coprime (unsigned_abs n) d → FitsSigned w128 n → ¬ (FitsSigned w128 (neg_ℤ (read n))) → HasNoForm (neg_ℚ (ratio n d))
past_negation n d p low f past =
    HasNoForm-from _ _ _ (lowest_negation n d p low) (λ h. past (subst (λ x. FitsSigned w128 (neg_ℤ x)) (sym (to_z-of_z w128 n f)) h.0))
