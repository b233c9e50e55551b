-- Fractions in lowest terms: a fraction over its greatest common divisor, and a product of two of them reduced crosswise.
-- Example: `two_quarters`.
use Rattle.std.proofs.Common.{◌≡◌, ℕ, zero, suc, ◌*◌, ◌/◌, ◌<◌, arith, refl, sym, ap, ap₂, subst, ◌∙◌, unsigned_abs, int_div}
use Rattle.std.proofs.Math.IntN.{ℤ, pos, negsuc, ◌*ℤ◌, neg_ℤ}
use Rattle.std.proofs.Math.Nat.{div-mul_cancel, mul-pos}
use Rattle.std.specs.Int.{IsGcd, ◌∣◌}
use Rattle.std.proofs.lemmas.Int.{ints}
use Rattle.std.proofs.lemmas.Nat.Gcd.{IsGcd-from_zero, IsGcd-from_mod}
use borrow.Author.Differences.{up, down, same_in}
use Rattle.lq_base_numbers.specs.Rationals.Coprime.{Coprime, Coprime_swap, Coprime-mul, Coprime-from_gcd, Coprime-div}
use Rattle.lq_base_numbers.specs.Rationals.IntRing.{at, nat, ◌⊗◌, ring}
use Rattle.lq_base_numbers.specs.Rationals.Rational.{ratio}
use Rattle.lq_base_numbers.specs.Rationals.RationalOrder.{ratio_from_cross}

-- ---- an exact quotient
pub neg_part : (m : ℕ) → (up (neg_ℤ (pos m)) ≡ 0) × (down (neg_ℤ (pos m)) ≡ m)
neg_part zero = (refl, refl)
neg_part (suc m) = (refl, refl)

pub quotient-mul : (n : ℤ) (g : ℕ) → g ∣ unsigned_abs n → int_div n (pos g) *ℤ pos g ≡ n
quotient-mul (pos k) g p = ap pos (div-mul_cancel g p)
quotient-mul (negsuc k) g p =
    let e : suc k / g * g ≡ suc k = div-mul_cancel g p in
    let q = neg_part (suc k / g) in
    same_in (int_div (negsuc k) (pos g) *ℤ pos g) (negsuc k) (omega (arith, ints, e, ap (λ x. x * g) q.0, ap (λ x. x * g) q.1))

abs_neg : (m : ℕ) → unsigned_abs (neg_ℤ (pos m)) ≡ m
abs_neg zero = refl
abs_neg (suc m) = refl

pub unsigned_abs-quotient : (n : ℤ) (g : ℕ) → unsigned_abs (int_div n (pos g)) ≡ unsigned_abs n / g
unsigned_abs-quotient (pos k) g = refl
unsigned_abs-quotient (negsuc k) g = abs_neg (suc k / g)

pub quotient_some : (b g : ℕ) → 0 < b → g ∣ b → 0 < b / g
quotient_some b g p q = positive (b / g) (div-mul_cancel g q)
  where
    positive : (k : ℕ) → k * g ≡ b → 0 < k
    positive zero e = absurd (omega arith)
    positive (suc k) e = omega arith

-- a fraction over its greatest common divisor is in lowest terms, and is the same
pub record IsReduced (n : ℤ) (d : ℕ) (n' : ℤ) (d' : ℕ) : Type 0 where
  pub positive : 0 < d'
  pub lowest : Coprime (unsigned_abs n') d'
  pub same : ratio n' d' ≡ ratio n d

pub reduced : (n : ℤ) (d g : ℕ) → 0 < d → IsGcd (unsigned_abs n) d g → IsReduced n d (int_div n (pos g)) (d / g)
reduced n d g p gcd =
    let some : 0 < d / g = quotient_some d g p gcd.1 in
    record {
      positive = some;
      lowest = subst (λ k. Coprime k (d / g)) (sym (unsigned_abs-quotient n g)) (Coprime-from_gcd (unsigned_abs n) d g p gcd);
      same = ratio_from_cross (int_div n (pos g)) n (d / g) d some p
          (cross (int_div n (pos g)) (d / g) (quotient-mul n g gcd.0) (div-mul_cancel g gcd.1));
    }
  where
    cross : (n' : ℤ) (d' : ℕ) → n' *ℤ pos g ≡ n → d' * g ≡ d → n' *ℤ pos d ≡ n *ℤ pos d'
    cross n' d' e f =
        subst (λ x. n' *ℤ pos x ≡ n *ℤ pos d') f (subst (λ x. n' *ℤ pos (d' * g) ≡ x *ℤ pos d') e
        (ring (at n' ⊗ nat (d' * g)) (at n' ⊗ nat g ⊗ nat d') (omega arith)))

-- a / b times c / d, both in lowest terms, where g is what a and d share, and h what c and b share
pub record IsReducedProduct (a b c d n e : ℕ) : Type 0 where
  pub positive : 0 < e
  pub lowest : Coprime n e
  pub same : n * (b * d) ≡ a * c * e

pub reduced_product : (a b c d g h : ℕ) → 0 < b → 0 < d → Coprime a b → Coprime c d → IsGcd a d g → IsGcd c b h
    → IsReducedProduct a b c d (a / g * (c / h)) (b / h * (d / g))
reduced_product a b c d g h p q low low' left right =
    let some_b : 0 < b / h = quotient_some b h p right.1 in
    let some_d : 0 < d / g = quotient_some d g q left.1 in
    let ab : Coprime (a / g) (b / h) = Coprime_swap _ _ (Coprime-div b (a / g) h right.1 (Coprime_swap _ _ (Coprime-div a b g left.0 low))) in
    let ad : Coprime (a / g) (d / g) = Coprime-from_gcd a d g q left in
    let cb : Coprime (c / h) (b / h) = Coprime-from_gcd c b h p right in
    let cd : Coprime (c / h) (d / g) = Coprime_swap _ _ (Coprime-div d (c / h) g left.1 (Coprime_swap _ _ (Coprime-div c d h right.0 low'))) in
    record {
      positive = mul-pos some_b some_d;
      lowest = Coprime_swap _ _ (Coprime-mul (b / h * (d / g)) (a / g) (c / h)
          (Coprime_swap _ _ (Coprime-mul (a / g) (b / h) (d / g) ab ad))
          (Coprime_swap _ _ (Coprime-mul (c / h) (b / h) (d / g) cb cd)));
      same = crossed (a / g) (b / h) (c / h) (d / g)
          (div-mul_cancel g left.0) (div-mul_cancel h right.1) (div-mul_cancel h right.0) (div-mul_cancel g left.1);
    }
  where
    crossed : (a' b' c' d' : ℕ) → a' * g ≡ a → b' * h ≡ b → c' * h ≡ c → d' * g ≡ d → a' * c' * (b * d) ≡ a * c * (b' * d')
    crossed a' b' c' d' e f i j =
        ap₂ (λ x y. a' * c' * (x * y)) (sym f) (sym j) ∙ omega arith ∙ ap₂ (λ x y. x * y * (b' * d')) e i

-- an example of use
two_quarters : IsReduced (pos 2) 4 (pos 1) 2
two_quarters = reduced (pos 2) 4 2 (omega arith) (IsGcd-from_mod 2 4 2 (IsGcd-from_mod 4 2 2 (IsGcd-from_zero 2 0 refl)))
