-- When two fractions are one rational, and the order of the rationals, with what follows from cross products. `OrderLaws` has the rest.
-- Example: `half_below_two_thirds`.
use Rattle.std.proofs.Common.{◌≡◌, ℕ, suc, ◌-◌, ◌<◌, arith, refl, sym, ap, ◌∙◌, subst, Bool, true, false, IsTrue}
use Rattle.std.proofs.Math.IntN.{ℤ, pos, negsuc, ◌-ℤ◌, ◌*ℤ◌, ℤ_set}
use Rattle.std.specs.Int.Signed.{◌≤ℤ◌}
use Rattle.std.proofs.lemmas.Int.{ints}
use mathlib.Core.Bool.{Bool-set}
use std.Quotient.{/_set, /_elim_prop, /_elim_prop₂, /_rec, IsEquivRel, effective}
use Rattle.lq_base_numbers.specs.Rationals.IntRing.{at, ◌⊗◌, ring, ring_out}
use Rattle.lq_base_numbers.specs.Rationals.IntOrder.{mul_cancel, mul_nonneg}
use Rattle.lq_base_numbers.specs.Rationals.Pairs.{Pair, Same, below, pair_sum, pair_difference, pair_product}
use Rattle.lq_base_numbers.specs.Rationals.RationalRing.{+ℚ--ℚ, -ℚ_self, +ℚ_zero, -ℚ--ℚ, *ℚ--ℚ, *ℚ_zero}
use Rattle.lq_base_numbers.specs.Rationals.Rational.{ℚ, class, ratio, whole, same_class, ◌+ℚ◌, ◌-ℚ◌, ◌*ℚ◌, sum-class, difference-class, product-class}

Same-trans : (a b c : Pair) → Same a b → Same b c → Same a c
Same-trans a b c e f =
    let n = at a.0 in let m = at b.0 in let k = at c.0 in
    let D = at (below a) in let E = at (below b) in let F = at (below c) in
    mul_cancel (a.0 *ℤ below c) (c.0 *ℤ below a) (below b) (omega (arith, ints))
    (ring (n ⊗ F ⊗ E) (k ⊗ D ⊗ E)
    (omega (
      arith,
      ring_out (F ⊗ (n ⊗ E)) (F ⊗ (m ⊗ D)) (ap (λ x. below c *ℤ x) e),
      ring_out (D ⊗ (m ⊗ F)) (D ⊗ (k ⊗ E)) (ap (λ x. below a *ℤ x) f),
    )))

Same-IsEquivRel : IsEquivRel Same
Same-IsEquivRel = record { reflexive = λ a. refl; symmetric = λ a b e. sym e; transitive = Same-trans }

-- one rational, so one cross product
pub same_from_class : (a b : Pair) → class a ≡ class b → Same a b
same_from_class = effective (λ a b. ℤ_set _ _) Same-IsEquivRel

pub cross_from_ratio : (n m : ℤ) (d e : ℕ) → 0 < d → 0 < e → ratio n d ≡ ratio m e → n *ℤ pos e ≡ m *ℤ pos d
cross_from_ratio n m d e p q h =
    let s : n *ℤ pos (suc (e - 1)) ≡ m *ℤ pos (suc (d - 1)) = same_from_class (n, d - 1) (m, e - 1) h in
    let dd : suc (d - 1) ≡ d = omega arith in
    let ee : suc (e - 1) ≡ e = omega arith in
    rw (dd, ee) at s

pub ratio_from_cross : (n m : ℤ) (d e : ℕ) → 0 < d → 0 < e → n *ℤ pos e ≡ m *ℤ pos d → ratio n d ≡ ratio m e
ratio_from_cross n m d e p q h =
    let dd : d ≡ suc (d - 1) = omega arith in
    let ee : e ≡ suc (e - 1) = omega arith in
    same_class (n, d - 1) (m, e - 1) (subst (λ x. n *ℤ pos x ≡ m *ℤ pos (suc (d - 1))) ee (subst (λ x. n *ℤ pos e ≡ m *ℤ pos x) dd h))

-- ---- order
abbrev pub not_negative : ℤ → Bool
not_negative (pos n) = true
not_negative (negsuc n) = false

pub not_negative-from : (n : ℤ) → pos 0 ≤ℤ n → IsTrue (not_negative n)
not_negative-from (pos n) h = refl
not_negative-from (negsuc n) h = absurd (omega (arith, ints))

pub from_not_negative : (n : ℤ) → IsTrue (not_negative n) → pos 0 ≤ℤ n
from_not_negative (pos n) h = omega (arith, ints)
from_not_negative (negsuc n) h = cc

pub sign-same : (a b : Pair) → Same a b → not_negative a.0 ≡ not_negative b.0
sign-same a b e = go a.0 b.0 e
  where
    go : (n m : ℤ) → n *ℤ below b ≡ m *ℤ below a → not_negative n ≡ not_negative m
    go (pos n) (pos m) h = refl
    go (negsuc n) (negsuc m) h = refl
    go (pos n) (negsuc m) h = absurd (omega (arith, ints))
    go (negsuc n) (pos m) h = absurd (omega (arith, ints))

pub at_least_zero : ℚ → Bool
at_least_zero = /_rec Bool-set (λ a. not_negative a.0) sign-same

pub at_least_zero-class : (a : Pair) → at_least_zero (class a) ≡ not_negative a.0
unfolding at_least_zero /_rec
at_least_zero-class a = refl

infix 50 ◌≤ℚ◌ ◌<ℚ◌
pub record ◌≤ℚ◌ (x y : ℚ) : Type 0 where
  pub at_most : IsTrue (at_least_zero (y -ℚ x))

abbrev pub ◌<ℚ◌ : ℚ → ℚ → Type 0
x <ℚ y = ¬ (y ≤ℚ x)

-- ---- a fraction that isn't negative
abbrev pub NotNegative : ℚ → Type 0
NotNegative x = IsTrue (at_least_zero x)

pub T_prop : (b : Bool) → IsProp (IsTrue b)
T_prop b = Bool-set b true

pub NotNegative-sum : (x y : ℚ) → NotNegative x → NotNegative y → NotNegative (x +ℚ y)
NotNegative-sum =
    /_elim_prop₂ (λ x y. NotNegative x → NotNegative y → NotNegative (x +ℚ y)) (λ x y. hlevel (T_prop))
    (λ a b h k. rw (sum-class a b, at_least_zero-class (pair_sum a b))
    (not_negative-from (pair_sum a b).0
    (let p = mul_nonneg a.0 (below b) (from_not_negative a.0 (rw at_least_zero-class at h)) (omega (arith, ints)) in
    let q = mul_nonneg b.0 (below a) (from_not_negative b.0 (rw at_least_zero-class at k)) (omega (arith, ints)) in
    omega (arith, ints))))

pub NotNegative-product : (x y : ℚ) → NotNegative x → NotNegative y → NotNegative (x *ℚ y)
NotNegative-product =
    /_elim_prop₂ (λ x y. NotNegative x → NotNegative y → NotNegative (x *ℚ y)) (λ x y. hlevel (T_prop))
    (λ a b h k. rw (product-class a b, at_least_zero-class (pair_product a b))
    (not_negative-from (pair_product a b).0
    (mul_nonneg a.0 b.0 (from_not_negative a.0 (rw at_least_zero-class at h)) (from_not_negative b.0 (rw at_least_zero-class at k)))))

-- of a number and its negation one isn't negative, and both only at zero
pub other_sign : (x : ℚ) → at_least_zero x ≡ false → NotNegative (whole (pos 0) -ℚ x)
other_sign =
    /_elim_prop (λ x. at_least_zero x ≡ false → NotNegative (whole (pos 0) -ℚ x)) (λ x. hlevel (T_prop))
    (λ a h. rw (difference-class (pos 0, 0) a, at_least_zero-class (pair_difference (pos 0, 0) a))
    (not_negative-from (pair_difference (pos 0, 0) a).0
    (let p = from_negative a.0 (rw at_least_zero-class at h) in omega (arith, ints))))
  where
    from_negative : (n : ℤ) → not_negative n ≡ false → n ≤ℤ pos 0
    from_negative (pos n) h = cc
    from_negative (negsuc n) h = omega (arith, ints)

pub zero_from_signs : (x : ℚ) → NotNegative x → NotNegative (whole (pos 0) -ℚ x) → x ≡ whole (pos 0)
zero_from_signs =
    /_elim_prop (λ x. NotNegative x → NotNegative (whole (pos 0) -ℚ x) → x ≡ whole (pos 0)) (λ x. hlevel (T_prop, /_set {A = Pair} {R = Same}))
    (λ a h k. same_class a (pos 0, 0)
    (let p = from_not_negative a.0 (rw at_least_zero-class at h) in
    let q = from_not_negative (pos 0 *ℤ below a -ℤ a.0 *ℤ pos 1) (rw (difference-class (pos 0, 0) a, at_least_zero-class (pair_difference (pos 0, 0) a)) at k) in
    omega (arith, ints)))

-- ---- the order of two fractions is that of their cross products
less_first : (b : ℕ) → 0 < b → suc (b - 1) ≡ b
less_first b p = omega arith

pub at_most_from_cross : (n m : ℤ) (d e : ℕ) → 0 < d → 0 < e → (n *ℤ pos e) ≤ℤ (m *ℤ pos d) → ratio n d ≤ℚ ratio m e
at_most_from_cross n m d e p q h = record {
  at_most = rw (difference-class (m, e - 1) (n, d - 1), at_least_zero-class (pair_difference (m, e - 1) (n, d - 1)))
      (not_negative-from (pair_difference (m, e - 1) (n, d - 1)).0
      (let dd : suc (d - 1) ≡ d = less_first d p in let ee : suc (e - 1) ≡ e = less_first e q in
      let s : pos 0 ≤ℤ (m *ℤ pos d -ℤ n *ℤ pos e) = omega (arith, ints) in rw (dd, ee) s));
}

pub cross_from_at_most : (n m : ℤ) (d e : ℕ) → 0 < d → 0 < e → ratio n d ≤ℚ ratio m e → (n *ℤ pos e) ≤ℤ (m *ℤ pos d)
cross_from_at_most n m d e p q h =
    let dd : suc (d - 1) ≡ d = less_first d p in let ee : suc (e - 1) ≡ e = less_first e q in
    let s = from_not_negative (pair_difference (m, e - 1) (n, d - 1)).0
    (rw (difference-class (m, e - 1) (n, d - 1), at_least_zero-class (pair_difference (m, e - 1) (n, d - 1))) at h.at_most) in
    let t : pos 0 ≤ℤ (m *ℤ pos d -ℤ n *ℤ pos e) = rw (dd, ee) at s in omega (arith, ints)

pub NotNegative-zero : NotNegative (whole (pos 0))
NotNegative-zero = at_least_zero-class (pos 0, 0)

pub ≤ℚ_refl : (x : ℚ) → x ≤ℚ x
≤ℚ_refl x = record { at_most = subst NotNegative (sym (-ℚ_self x)) NotNegative-zero }

minus_sum : (z x y : ℚ) → (z -ℚ x) +ℚ (whole (pos 0) -ℚ y) ≡ z -ℚ (x +ℚ y)
minus_sum z x y = +ℚ--ℚ (z -ℚ x) (whole (pos 0)) y ∙ ap (λ t. t -ℚ y) (+ℚ_zero (z -ℚ x)) ∙ -ℚ--ℚ z x y

minus_product : (m x : ℚ) → m *ℚ (whole (pos 0) -ℚ x) ≡ whole (pos 0) -ℚ m *ℚ x
minus_product m x = *ℚ--ℚ m (whole (pos 0)) x ∙ ap (λ t. t -ℚ m *ℚ x) (*ℚ_zero m)

pub sum_at_most : (x y : ℚ) → x ≤ℚ whole (pos 0) → y ≤ℚ whole (pos 0) → (x +ℚ y) ≤ℚ whole (pos 0)
sum_at_most x y h k = record { at_most = subst NotNegative (minus_sum (whole (pos 0)) x y) (NotNegative-sum (whole (pos 0) -ℚ x) (whole (pos 0) -ℚ y) h.at_most k.at_most) }

pub product_at_most : (m x : ℚ) → NotNegative m → x ≤ℚ whole (pos 0) → (m *ℚ x) ≤ℚ whole (pos 0)
product_at_most m x h k = record { at_most = subst NotNegative (minus_product m x) (NotNegative-product m (whole (pos 0) -ℚ x) h k.at_most) }

pub NotNegative-whole : (n : ℕ) → NotNegative (whole (pos n))
NotNegative-whole n = at_least_zero-class (pos n, 0)

-- an example of use
half_below_two_thirds : ratio (pos 1) 2 ≤ℚ ratio (pos 2) 3
half_below_two_thirds = at_most_from_cross (pos 1) (pos 2) 2 3 (omega arith) (omega arith) (omega (arith, ints))
