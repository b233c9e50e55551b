-- Sizes of sums and products of whole numbers, and counts.
use Rattle.std.proofs.Common.{◌≡◌, ℕ, ℤ, zero, suc, pos, ◌+◌, ◌*◌, ◌^◌, ◌<◌, ◌≤◌, ◌⊎◌, inl, inr, arith, refl, sym, ap, ap₂, subst, ◌∙◌, Bool, true, false, unsigned_abs}
use Rattle.std.proofs.Math.IntN.{◌+ℤ◌, ◌*ℤ◌, neg_ℤ}
use Rattle.std.proofs.Math.Nat.{pow-zero, pow-succ', mul-le-mul_left}
use Rattle.std.proofs.lemmas.Int.{ints, unsigned_abs-mul}
use Rattle.std.proofs.lemmas.Bool.{cases_eq}
use Rattle.lq_base_numbers.specs.Rationals.Rational.{ℚ, whole, ◌+ℚ◌, ◌*ℚ◌, neg_ℚ}
use Rattle.lq_base_numbers.specs.Rationals.Whole.{whole-sum, whole-product, whole-negation}
use Rattle.lq_prover_pivots.specs.Pivots.Ranges.{sum_below, one_if, count_below}
use Rattle.lq_prover_pivots.specs.Cramer.Determinants.{past, sign}
use Rattle.lq_prover_pivots.specs.Cramer.Sizes.{WithinWhole, factorial, limit}
use Rattle.lq_prover_pivots.proofs.CramerLemmas.Places.{past_by}

pub mul_at_most : (a b c d : ℕ) → a ≤ c → b ≤ d → a * b ≤ c * d
mul_at_most a b c d l m =
    let h : a * b ≤ a * d = mul-le-mul_left a m in
    let k : d * a ≤ d * c = mul-le-mul_left d l in
    omega arith

abs_sum : (a b : ℤ) → unsigned_abs (a +ℤ b) ≤ unsigned_abs a + unsigned_abs b
abs_sum a b = omega (arith, ints)

abs_neg : (a : ℤ) → unsigned_abs (neg_ℤ a) ≤ unsigned_abs a
abs_neg a = omega (arith, ints)

pub within_same : (l : ℕ) (x y : ℚ) → x ≡ y → WithinWhole l y → WithinWhole l x
within_same l x y e w = record { number = w.number; is = e ∙ w.is; within = w.within }

pub within_more : (l m : ℕ) (x : ℚ) → l ≤ m → WithinWhole l x → WithinWhole m x
within_more l m x h w = let k = w.within in record { number = w.number; is = w.is; within = omega arith }

pub within_zero : (l : ℕ) → WithinWhole l (whole (pos 0))
within_zero l = record { number = pos 0; is = refl; within = omega arith }

pub within_one : (l : ℕ) → 1 ≤ l → WithinWhole l (whole (pos 1))
within_one l h = record { number = pos 1; is = refl; within = h }

pub within_sum : (l m : ℕ) (x y : ℚ) → WithinWhole l x → WithinWhole m y → WithinWhole (l + m) (x +ℚ y)
within_sum l m x y v w =
    let a = v.number in
    let b = w.number in
    let h = v.within in
    let k = w.within in
    let s = abs_sum a b in
    record { number = a +ℤ b; is = ap₂ (λ s t. s +ℚ t) v.is w.is ∙ whole-sum a b; within = omega arith }

pub within_product : (l m : ℕ) (x y : ℚ) → WithinWhole l x → WithinWhole m y → WithinWhole (l * m) (x *ℚ y)
within_product l m x y v w =
    let a = v.number in
    let b = w.number in
    record {
      number = a *ℤ b;
      is = ap₂ (λ s t. s *ℚ t) v.is w.is ∙ whole-product a b;
      within = subst (λ t. t ≤ l * m) (sym (unsigned_abs-mul a b)) (mul_at_most (unsigned_abs a) (unsigned_abs b) l m v.within w.within);
    }

pub within_neg : (l : ℕ) (x : ℚ) → WithinWhole l x → WithinWhole l (neg_ℚ x)
within_neg l x w =
    let a = w.number in
    let h = w.within in
    let k = abs_neg a in
    record { number = neg_ℤ a; is = ap neg_ℚ w.is ∙ whole-negation a; within = omega arith }

pub within_sign : (k : ℕ) → WithinWhole 1 (sign k)
within_sign zero = within_one 1 (omega arith)
within_sign (suc k) = within_neg 1 (sign k) (within_sign k)

-- ---- k! * c^k
pow_some : (k c : ℕ) → 1 ≤ c → 1 ≤ c ^ k
pow_some zero c h = let e : c ^ 0 ≡ 1 = pow-zero c in omega arith
pow_some (suc k) c h = subst (λ t. 1 ≤ t) (sym (pow-succ' c k)) (mul_at_most 1 1 c (c ^ k) h (pow_some k c h))

factorial_some : (k : ℕ) → 1 ≤ factorial k
factorial_some zero = omega arith
factorial_some (suc k) = mul_at_most 1 1 (suc k) (factorial k) (omega arith) (factorial_some k)

pub limit_some : (k c : ℕ) → 1 ≤ c → 1 ≤ limit k c
limit_some k c h = mul_at_most 1 1 (factorial k) (c ^ k) (factorial_some k) (pow_some k c h)

pub limit_next : (k c : ℕ) → suc k * (c * limit k c) ≡ limit (suc k) c
limit_next k c = let e : c ^ suc k ≡ c * c ^ k = pow-succ' c k in let f = ap (λ t. suc k * factorial k * t) e in omega (arith, f)

pub limit_grows : (j k c : ℕ) → 1 ≤ c → j ≤ k → limit j c ≤ limit k c
limit_grows j zero c h l = subst (λ t. limit t c ≤ limit 0 c) (let e : 0 ≡ j = omega arith in e) (omega arith)
limit_grows j (suc k) c h l = by (λ m. limit_grows j k c h m) (cases_eq j (suc k))
  where
    by : (j ≤ k → limit j c ≤ limit k c) → (j ≡ suc k) ⊎ (j ≡ suc k → ⊥) → limit j c ≤ limit (suc k) c
    by before (inl e) = subst (λ t. limit t c ≤ limit (suc k) c) (sym e) (omega arith)
    by before (inr u) =
        let m : limit j c ≤ limit k c = before (omega arith) in
        let n : 1 * (1 * limit k c) ≤ suc k * (c * limit k c) = mul_at_most 1 (1 * limit k c) (suc k) (c * limit k c) (omega arith) (mul_at_most 1 (limit k c) c (limit k c) h (omega arith)) in
        let e = limit_next k c in
        omega arith

-- ---- counts
pub count_same : (n : ℕ) (f g : ℕ → Bool) → ((k : ℕ) → k < n → f k ≡ g k) → count_below n f ≡ count_below n g
count_same zero f g h = refl
count_same (suc n) f g h = ap₂ (λ s t. s + one_if t) (count_same n f g (λ k l. h k (omega arith))) (h n (omega arith))

pub count_some : (n k : ℕ) (f : ℕ → Bool) → k < n → f k ≡ true → 1 ≤ count_below n f
count_some zero k f l e = absurd (omega arith)
count_some (suc n) k f l e = by (λ m. count_some n k f m e) (cases_eq k n)
  where
    by : (k < n → 1 ≤ count_below n f) → (k ≡ n) ⊎ (k ≡ n → ⊥) → 1 ≤ count_below (suc n) f
    by before (inl q) = let h : one_if (f n) ≡ 1 = ap one_if (ap f (sym q) ∙ e) in omega arith
    by before (inr u) = let h = before (omega arith) in omega arith

-- without place k
pub count_past : (n k : ℕ) (f : ℕ → Bool) → k < suc n → count_below n (λ a. f (past k a)) + one_if (f k) ≡ count_below (suc n) f
count_past zero k f l = let e : k ≡ 0 = omega arith in ap (λ t. 0 + one_if (f t)) e
count_past (suc n) k f l = by (λ m. count_past n k f m) (cases_eq k (suc n))
  where
    by : (k < suc n → count_below n (λ a. f (past k a)) + one_if (f k) ≡ count_below (suc n) f) → (k ≡ suc n) ⊎ (k ≡ suc n → ⊥)
        → count_below (suc n) (λ a. f (past k a)) + one_if (f k) ≡ count_below (suc (suc n)) f
    by before (inl e) =
        ap₂ (λ s t. s + one_if (f t))
        (count_same (suc n) (λ a. f (past k a)) f (λ a m. ap f (past_by k a (λ o i. i) (λ o i. absurd (omega arith)))))
        e
    by before (inr u) =
        let h = before (omega arith) in
        let e : one_if (f (past k n)) ≡ one_if (f (suc n)) = ap (λ t. one_if (f t)) (past_by k n (λ o i. absurd (omega arith)) (λ o i. i)) in
        omega arith

-- a sum of as many parts as are counted, each of bounded size, and of zeros
pub within_sum_below : (n l : ℕ) (f : ℕ → ℚ) (some : ℕ → Bool) → ((k : ℕ) → k < n → some k ≡ true → WithinWhole l (f k))
    → ((k : ℕ) → k < n → some k ≡ false → f k ≡ whole (pos 0)) → WithinWhole (count_below n some * l) (sum_below n f)
within_sum_below zero l f some g h = within_zero (0 * l)
within_sum_below (suc n) l f some g h = by (within_sum_below n l f some (λ k m. g k (omega arith)) (λ k m. h k (omega arith))) (some n) refl
  where
    by : WithinWhole (count_below n some * l) (sum_below n f) → (b : Bool) → some n ≡ b → WithinWhole (count_below (suc n) some * l) (sum_below (suc n) f)
    by before true e =
        let i : one_if (some n) ≡ 1 = ap one_if e in
        let j = ap (λ t. t * l) i in
        within_more (count_below n some * l + l) (count_below (suc n) some * l) (sum_below (suc n) f) (omega (arith, j))
        (within_sum (count_below n some * l) l (sum_below n f) (f n) before (g n (omega arith) e))
    by before false e =
        within_more (count_below n some * l + 0) (count_below (suc n) some * l) (sum_below (suc n) f) (omega arith)
        (within_sum (count_below n some * l) 0 (sum_below n f) (f n) before (within_same 0 (f n) (whole (pos 0)) (h n (omega arith) e) (within_zero 0)))
