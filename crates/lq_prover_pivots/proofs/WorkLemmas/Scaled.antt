-- What a common denominator says of lowest terms, and of two fractions over the least common multiple of their denominators.
use Rattle.std.proofs.Common.{◌≡◌, ◌⊎◌, inl, inr, ℕ, ℤ, zero, suc, pos, ◌*◌, ◌/◌, ◌<◌, ◌≤◌, arith, sym, ap, subst, ◌∙◌, unsigned_abs}
use Rattle.std.proofs.Math.IntN.{◌*ℤ◌}
use Rattle.std.proofs.Math.Nat.{div-mul_cancel, dvd-mul_left, eq_of_mul-eq-mul_left, mul-le-mul_left}
use Rattle.std.proofs.lemmas.Int.{ints, unsigned_abs-mul}
use Rattle.std.specs.Int.{◌∣◌}
use Rattle.lq_base_numbers.specs.Rationals.Coprime.{Coprime, Coprime_swap, euclid, zero_or}
use Rattle.lq_base_numbers.specs.Rationals.LowestTerms.{IsLowest}
use Rattle.lq_base_numbers.specs.Rationals.Ratios.{ratio-product}
use Rattle.lq_base_numbers.specs.Rationals.Rational.{ℚ, ratio, whole, ◌*ℚ◌}
use Rattle.lq_base_numbers.specs.Rationals.RationalOrder.{cross_from_ratio}

-- z / q is a / b with both parts multiplied
pub record IsScaled (a b q z : ℕ) : Type 0 where
  pub times : ℕ
  pub some : 0 < times
  pub denom : q ≡ times * b
  pub numer : z ≡ times * a

pub some_times : (t b q : ℕ) → 0 < q → q ≡ t * b → 0 < t
some_times zero b q h e = absurd (omega arith)
some_times (suc t) b q h e = omega arith

scaled : (a b q z : ℕ) → 0 < b → 0 < q → Coprime a b → a * q ≡ z * b → IsScaled a b q z
scaled a b q z p s h e =
    let divides : b ∣ q = euclid b a q (Coprime_swap a b h) (subst (λ n. b ∣ n) (sym e) (dvd-mul_left b z)) in
    let t : ℕ = q / b in
    let u : t * b ≡ q = div-mul_cancel b divides in
    record {
      times = t;
      some = some_times t b q s (sym u);
      denom = sym u;
      numer = eq_of_mul-eq-mul_left b p z (t * a) (omega (arith, e, ap (λ n. a * n) u));
    }

pub some_size : (q : ℤ) → ¬ (q ≡ pos 0) → 0 < unsigned_abs q
some_size q h = by (zero_or (unsigned_abs q))
  where
    by : (unsigned_abs q ≡ 0) ⊎ (0 < unsigned_abs q) → 0 < unsigned_abs q
    by (inl e) = absurd (h (omega (arith, ints)))
    by (inr l) = l

-- x times q is the whole number z
pub lowest_scaled : (x : ℚ) (a : ℤ) (b : ℕ) (q z : ℤ) → IsLowest x a b → ¬ (q ≡ pos 0) → x *ℚ whole q ≡ whole z
    → IsScaled (unsigned_abs a) b (unsigned_abs q) (unsigned_abs z)
lowest_scaled x a b q z low apart e =
    let same : ratio (a *ℤ q) (b * 1) ≡ ratio z 1 =
    sym (ratio-product a q b 1 low.positive (omega arith)) ∙ ap (λ t. t *ℚ whole q) low.same ∙ e in
    let some : 0 < b = low.positive in
    let cross : a *ℤ q *ℤ pos 1 ≡ z *ℤ pos (b * 1) = cross_from_ratio (a *ℤ q) z (b * 1) 1 (omega arith) (omega arith) same in
    let sizes : unsigned_abs a * unsigned_abs q * 1 ≡ unsigned_abs z * (b * 1) =
    ap (λ t. t * 1) (sym (unsigned_abs-mul a q)) ∙ sym (unsigned_abs-mul (a *ℤ q) (pos 1)) ∙ ap unsigned_abs cross ∙ unsigned_abs-mul z (pos (b * 1)) in
    scaled (unsigned_abs a) b (unsigned_abs q) (unsigned_abs z) low.positive (some_size q apart) low.lowest (omega arith)

-- a part is no larger than the product
pub part_within : (t a z : ℕ) → 0 < t → z ≡ t * a → a ≤ z
part_within t a z l e = let h : a * 1 ≤ a * t = mul-le-mul_left a (let k : 1 ≤ t = omega arith in k) in omega arith

-- over a multiple m of b that divides q
pub over_within : (a b q z m s : ℕ) → 0 < b → 0 < s → IsScaled a b q z → b ∣ m → q ≡ s * m → a * (m / b) ≤ z
over_within a b q z m s p l is divides e =
    let u : m / b * b ≡ m = div-mul_cancel b divides in
    let same : b * is.times ≡ b * (s * (m / b)) = omega (arith, is.denom, e, ap (λ n. s * n) u) in
    let t : is.times ≡ s * (m / b) = eq_of_mul-eq-mul_left b p is.times (s * (m / b)) same in
    part_within s (a * (m / b)) z l (omega (arith, is.numer, ap (λ n. n * a) t))
