-- What the numerator of a sum over the least common multiple of the denominators shares with that multiple divides what the
-- denominators share.
use Rattle.std.proofs.Common.{◌≡◌, ◌⊎◌, inl, inr, ℕ, ◌+◌, ◌*◌, ◌/◌, ◌<◌, arith, refl, sym, ap, subst, ◌∙◌, unsigned_abs, FitsSigned}
use Rattle.std.proofs.Math.IntN.{ℤ, pos, negsuc, ◌+ℤ◌, ◌-ℤ◌, ◌*ℤ◌, neg_ℤ}
use Rattle.std.proofs.Math.Nat.{dvd-add, dvd-add_iff_left, dvd-add_iff_right, dvd-mul_left_of_dvd, div-mul_cancel}
use Rattle.std.proofs.lemmas.Int.{ints, to_z-of_z, unsigned_abs-mul}
use Rattle.std.proofs.lemmas.Nat.Gcd.{dvd_trans}
use Rattle.std.specs.Int.{IsGcd, ◌∣◌}
use borrow.Author.Differences.{up, down}
use Rattle.lq_base_numbers.specs.Rationals.Coprime.{Coprime, Coprime_swap, Coprime-from_gcd, Coprime-div, euclid}
use Rattle.lq_base_numbers.specs.Rationals.Lcm.{IsLcm, lcm_from_gcd, lcm_once}
use Rattle.std.specs.Int.{w128}
use Rattle.lq_base_numbers.proofs.FractionsLemmas.Multiples.{read, both_read}
use Rattle.lq_base_numbers.proofs.FractionsLemmas.Products.{size_of_negation}
use Rattle.lq_base_numbers.specs.Fractions.Over.{IsOver}

-- ---- sizes of sums
abs_parts : (z : ℤ) → unsigned_abs z ≡ up z + down z
abs_parts (pos n) = omega arith
abs_parts (negsuc n) = omega arith

one_side : (z : ℤ) → (up z ≡ 0) ⊎ (down z ≡ 0)
one_side (pos n) = inr refl
one_side (negsuc n) = inl refl

-- of a size and two others, one is the sum of the others
abbrev AreParted : ℕ → ℕ → ℕ → Type 0
AreParted s p q = (s ≡ p + q) ⊎ ((s + q ≡ p) ⊎ (p + s ≡ q))

pub sum_sizes : (x y : ℤ) → AreParted (unsigned_abs (x +ℤ y)) (unsigned_abs x) (unsigned_abs y)
sum_sizes (pos n) (pos m) = inl refl
sum_sizes (pos n) (negsuc m) =
    let z = pos n +ℤ negsuc m in
    let parts = abs_parts z in
    elim (one_side z) [ inl low ↦ inr (inr (omega (arith, ints, parts, low))) | inr high ↦ inr (inl (omega (arith, ints, parts, high))) ]
sum_sizes (negsuc n) (pos m) =
    let z = negsuc n +ℤ pos m in
    let parts = abs_parts z in
    elim (one_side z) [ inl low ↦ inr (inl (omega (arith, ints, parts, low))) | inr high ↦ inr (inr (omega (arith, ints, parts, high))) ]
sum_sizes (negsuc n) (negsuc m) = inl (omega arith)

pub difference_sizes : (x y : ℤ) → AreParted (unsigned_abs (x -ℤ y)) (unsigned_abs x) (unsigned_abs y)
difference_sizes x y =
    subst (λ n. AreParted (unsigned_abs (x -ℤ y)) (unsigned_abs x) n) (size_of_negation y)
    (subst (λ z. AreParted (unsigned_abs z) (unsigned_abs x) (unsigned_abs (neg_ℤ y))) (turned x y) (sum_sizes x (neg_ℤ y)))
  where
    turned : (x y : ℤ) → x +ℤ neg_ℤ y ≡ x -ℤ y
    turned x y = omega (arith, ints)

first_divided : (k s p q : ℕ) → AreParted s p q → k ∣ s → k ∣ q → k ∣ p
first_divided k s p q (inl e) d d' = (dvd-add_iff_left k d').1 (subst (λ n. k ∣ n) e d)
first_divided k s p q (inr (inl e)) d d' = subst (λ n. k ∣ n) e (dvd-add k d d')
first_divided k s p q (inr (inr e)) d d' = (dvd-add_iff_left k d).1 (subst (λ n. k ∣ n) (sym e) d')

second_divided : (k s p q : ℕ) → AreParted s p q → k ∣ s → k ∣ p → k ∣ q
second_divided k s p q (inl e) d d' = (dvd-add_iff_right k d').1 (subst (λ n. k ∣ n) e d)
second_divided k s p q (inr (inl e)) d d' = (dvd-add_iff_right k d).1 (subst (λ n. k ∣ n) (sym e) d')
second_divided k s p q (inr (inr e)) d d' = subst (λ n. k ∣ n) e (dvd-add k d' d)

-- ---- what a sum of p * y and q * x shares with x * (y * g)
shared_by : (p q x y g s k : ℕ) → AreParted s (p * y) (q * x) → Coprime x y → Coprime p x → Coprime q y → k ∣ s → k ∣ x * (y * g) → k ∣ g
shared_by p q x y g s k parted apart first second d d' =
    let with_x : Coprime s x =
    (λ j r t.
    first j (euclid j y p (λ i u v. apart i (dvd_trans i u t) v)
    (subst (λ n. j ∣ n) (omega arith) (first_divided j s (p * y) (q * x) parted r (dvd-mul_left_of_dvd j t q)))) t) in
    let with_y : Coprime s y =
    (λ j r t.
    second j (euclid j x q (λ i u v. apart i v (dvd_trans i u t))
    (subst (λ n. j ∣ n) (omega arith) (second_divided j s (p * y) (q * x) parted r (dvd-mul_left_of_dvd j t p)))) t) in
    euclid k y g (λ i u v. with_y i (dvd_trans i u d) v) (euclid k x (y * g) (λ i u v. with_x i (dvd_trans i u d) v) d')

-- what two fractions in lowest terms, over the least common multiple of their denominators, sum to
pub shared_within : (op : ℤ → ℤ → ℤ) → ((x y : ℤ) → AreParted (unsigned_abs (op x y)) (unsigned_abs x) (unsigned_abs y)) → (a c : ℤ) (b d g m k : ℕ)
    → 0 < b → 0 < d → Coprime (unsigned_abs a) b → Coprime (unsigned_abs c) d → IsGcd b d g → IsLcm b d m
    → k ∣ unsigned_abs (op (a *ℤ pos (m / b)) (c *ℤ pos (m / d))) → k ∣ m → k ∣ g
shared_within op parted a c b d g m k some some' low low' gcd least p q =
    let l = lcm_from_gcd b d g some some' gcd in
    let multiple : b / g * d ≡ m = lcm_once b d _ m l.0 least in
    let first : m / b ≡ d / g = ap (λ n. n / b) (sym multiple) ∙ l.1 in
    let second : m / d ≡ b / g = ap (λ n. n / d) (sym multiple) ∙ l.2 in
    let size : unsigned_abs (a *ℤ pos (m / b)) ≡ unsigned_abs a * (d / g) = unsigned_abs-mul a (pos (m / b)) ∙ ap (λ n. unsigned_abs a * n) first in
    let size' : unsigned_abs (c *ℤ pos (m / d)) ≡ unsigned_abs c * (b / g) = unsigned_abs-mul c (pos (m / d)) ∙ ap (λ n. unsigned_abs c * n) second in
    shared_by (unsigned_abs a) (unsigned_abs c) (b / g) (d / g) g (unsigned_abs (op (a *ℤ pos (m / b)) (c *ℤ pos (m / d)))) k
    (subst (λ n. AreParted (unsigned_abs (op (a *ℤ pos (m / b)) (c *ℤ pos (m / d)))) n (unsigned_abs c * (b / g))) size
    (subst (λ n. AreParted (unsigned_abs (op (a *ℤ pos (m / b)) (c *ℤ pos (m / d)))) (unsigned_abs (a *ℤ pos (m / b))) n) size'
    (parted (a *ℤ pos (m / b)) (c *ℤ pos (m / d)))))
    (Coprime-from_gcd b d g some' gcd)
    (Coprime_swap (b / g) (unsigned_abs a) (Coprime-div b (unsigned_abs a) g gcd.0 (Coprime_swap (unsigned_abs a) b low)))
    (Coprime_swap (d / g) (unsigned_abs c) (Coprime-div d (unsigned_abs c) g gcd.1 (Coprime_swap (unsigned_abs c) d low')))
    p (subst (λ n. k ∣ n) (sym multiple ∙ ap (λ n. b / g * n) (sym (div-mul_cancel g gcd.1))) q)

-- the same of a number that went to bits and was read again
pub within_read : (n : ℤ) (d shared : ℕ) → FitsSigned w128 n → ((k : ℕ) → k ∣ unsigned_abs n → k ∣ d → k ∣ shared) → (k : ℕ) → k ∣ unsigned_abs (read n) → k ∣ d → k ∣ shared
within_read n d shared f within k p = within k (subst (λ z. k ∣ unsigned_abs z) (to_z-of_z w128 n f) p)

-- a divisor of a number and of what bounds its common divisors is its greatest common divisor
pub gcd_within : (n : ℤ) (d shared h : ℕ) → FitsSigned w128 n → shared ∣ d → ((k : ℕ) → k ∣ unsigned_abs n → k ∣ d → k ∣ shared)
    → IsGcd (unsigned_abs (read n)) shared h → IsGcd (unsigned_abs (read n)) d h
gcd_within n d shared h f part within gcd = (gcd.0, dvd_trans h gcd.1 part, λ k p q. gcd.2 k p (within_read n d shared f within k p q))

-- the same, from the numbers that the code has
pub total_within : (op : ℤ → ℤ → ℤ) → ((x y : ℤ) → AreParted (unsigned_abs (op x y)) (unsigned_abs x) (unsigned_abs y)) → (a c : ℤ) (b d g m : ℕ) (n k s : ℤ)
    → 0 < b → 0 < d → Coprime (unsigned_abs a) b → Coprime (unsigned_abs c) d → IsGcd b d g → IsOver a c b d n k m
    → FitsSigned w128 (op (read n) (read k)) × (s ≡ op (read n) (read k)) → (j : ℕ) → j ∣ unsigned_abs (read s) → j ∣ m → j ∣ g
total_within op parted a c b d g m n k s some some' low low' gcd o h j p =
    let fits : FitsSigned w128 s = subst (λ z. FitsSigned w128 z) (sym h.1) h.0 in
    let same : read s ≡ op (a *ℤ pos (m / b)) (c *ℤ pos (m / d)) = to_z-of_z w128 s fits ∙ h.1 ∙ both_read op a c b d n k m o in
    shared_within op parted a c b d g m j some some' low low' gcd o.least (subst (λ z. j ∣ unsigned_abs z) same p)
