-- Common divisors of numbers whose twos are set apart.
use Rattle.std.proofs.Common.{◌≡◌, inl, inr, ℕ, zero, suc, ◌-◌, ◌*◌, ◌/◌, ◌%◌, ◌^◌, ◌<◌, ◌≤◌, arith, sym, ap, subst, ◌∙◌, min}
use Rattle.std.proofs.Math.Nat.{pow-succ', div-div-eq-div-mul, pos_of_dvd_of_pos, eq-one_of_dvd-one, one-dvd, dvd-mul_left, dvd-mul_right_of_dvd, mul-dvd-mul_right, dvd_of_mul-dvd-mul_right, div-mul_cancel, min-eq_left, min-eq_right}
use Rattle.std.proofs.lemmas.Bool.{cases_lt}
use Rattle.std.proofs.lemmas.Nat.Bits.{bit_at_lowest, bit_at-suc}
use Rattle.std.proofs.lemmas.Nat.Gcd.{dvd_trans, le_of_dvd, mod-eq-zero_of_dvd, IsGcd-swap, IsGcd-from_sub}
use Rattle.std.specs.Int.{IsGcd, ◌∣◌, bit_at, abs_diff}
use Rattle.lq_base_numbers.specs.Rationals.Coprime.{Coprime, Coprime-mul, euclid}
use Rattle.lq_base_numbers.specs.Rationals.Lcm.{gcd_exists}

-- halved as often as its lowest bits are 0, and doubled as often
pub doubled_again : (t n : ℕ) → ((i : ℕ) → i < t → bit_at n i ≡ 0) → n / 2 ^ t * 2 ^ t ≡ n
doubled_again zero n h = omega arith
doubled_again (suc t) n h =
    let even : n % 2 ≡ 0 = sym (bit_at_lowest n) ∙ h 0 (omega arith) in
    let half : n / 2 * 2 ≡ n = omega arith in
    let again : n / 2 / 2 ^ t * 2 ^ t ≡ n / 2 = doubled_again t (n / 2) (λ i p. sym (bit_at-suc n i) ∙ h (suc i) (omega arith)) in
    let split : n / 2 / 2 ^ t ≡ n / 2 ^ suc t = div-div-eq-div-mul n 2 (2 ^ t) ∙ ap (λ m. n / m) (sym (pow-succ' 2 t)) in
    omega (arith, half, again, ap (λ m. m * 2 ^ t) split, ap (λ m. n / 2 ^ suc t * m) (pow-succ' 2 t))

-- what divides an odd number shares nothing with a power of two
odd_apart_two : (x d : ℕ) → x % 2 ≡ 1 → d ∣ x → Coprime d 2
odd_apart_two x d odd p k q r =
    elim (cases_lt k 2) [
      | inl low ↦ let some : 0 < k = pos_of_dvd_of_pos r (omega arith) in omega arith
      | inr high ↦
          let most : k ≤ 2 = le_of_dvd (omega arith) r in
          let two : k ≡ 2 = omega arith in
          absurd (omega (arith, odd, mod-eq-zero_of_dvd 2 (subst (λ n. n ∣ x) two (dvd_trans k q p))))
    ]

pub odd_apart : (x d t : ℕ) → x % 2 ≡ 1 → d ∣ x → Coprime d (2 ^ t)
odd_apart x d zero odd p = λ k q r. eq-one_of_dvd-one r
odd_apart x d (suc t) odd p =
    subst (λ n. Coprime d n) (sym (pow-succ' 2 t)) (Coprime-mul d 2 (2 ^ t) (odd_apart_two x d odd p) (odd_apart x d t odd p))

-- twos of one number make no difference where the other is odd
pub with_twos : (x o t g : ℕ) → x % 2 ≡ 1 → IsGcd x o g → IsGcd x (o * 2 ^ t) g
with_twos x o t g odd gcd = (
  gcd.0,
  dvd-mul_right_of_dvd g gcd.1 (2 ^ t),
  λ d p q. gcd.2 d p (euclid d (2 ^ t) o (odd_apart x d t odd p) (subst (λ n. d ∣ n) (omega arith) q)),
)

pub odd_min : (x y : ℕ) → x % 2 ≡ 1 → y % 2 ≡ 1 → min x y % 2 ≡ 1
odd_min x y odd odd' =
    elim (cases_lt x y) [
      | inl less ↦ subst (λ n. n % 2 ≡ 1) (sym (min-eq_left (omega arith))) odd
      | inr more ↦ subst (λ n. n % 2 ≡ 1) (sym (min-eq_right more)) odd'
    ]

pub odd_step : (x y o t g : ℕ) → x % 2 ≡ 1 → y % 2 ≡ 1 → o * 2 ^ t ≡ abs_diff x y → IsGcd (min x y) o g → IsGcd x y g
odd_step x y o t g odd odd' times gcd =
    elim (cases_lt x y) [
      | inl less ↦
          let rest : o * 2 ^ t ≡ y - x = omega arith in
          let own : IsGcd x o g = subst (λ n. IsGcd n o g) (min-eq_left (omega arith)) gcd in
          IsGcd-swap y x g (IsGcd-from_sub y x g (omega arith) (IsGcd-swap x (y - x) g (subst (λ n. IsGcd x n g) rest (with_twos x o t g odd own))))
      | inr more ↦
          let rest : o * 2 ^ t ≡ x - y = omega arith in
          let own : IsGcd y o g = subst (λ n. IsGcd n o g) (min-eq_right more) gcd in
          IsGcd-from_sub x y g more (IsGcd-swap y (x - y) g (subst (λ n. IsGcd y n g) rest (with_twos y o t g odd' own)))
    ]

-- the divisor of multiples
pub IsGcd-times : (a b g k : ℕ) → 0 < k → IsGcd a b g → IsGcd (a * k) (b * k) (g * k)
IsGcd-times a b g k some gcd =
    let h = gcd_exists (a * k) (b * k) in
    let over : k ∣ h.0 = h.1.2 k (dvd-mul_left k a) (dvd-mul_left k b) in
    let split : h.0 / k * k ≡ h.0 = div-mul_cancel k over in
    let first : h.0 / k ∣ a = dvd_of_mul-dvd-mul_right (h.0 / k) some (subst (λ n. n ∣ a * k) (sym split) h.1.0) in
    let second : h.0 / k ∣ b = dvd_of_mul-dvd-mul_right (h.0 / k) some (subst (λ n. n ∣ b * k) (sym split) h.1.1) in
    let most : h.0 ∣ g * k = subst (λ n. n ∣ g * k) split (mul-dvd-mul_right (h.0 / k) (gcd.2 (h.0 / k) first second) k) in
    (mul-dvd-mul_right g gcd.0 k, mul-dvd-mul_right g gcd.1 k, λ d p q. dvd_trans d (h.1.2 d p q) most)

power_some : (t : ℕ) → 0 < 2 ^ t
power_some zero = omega arith
power_some (suc t) = omega (arith, pow-succ' 2 t, power_some t)

powers : (i j : ℕ) → i ≤ j → 2 ^ (j - i) * 2 ^ i ≡ 2 ^ j
powers zero j h = let e : j - 0 ≡ j = omega arith in omega (arith, ap (λ n. 2 ^ n) e)
powers (suc i) zero h = absurd (omega arith)
powers (suc i) (suc j) h =
    let e : suc j - suc i ≡ j - i = omega arith in
    omega (arith, ap (λ n. 2 ^ n * 2 ^ suc i) e, ap (λ n. 2 ^ (j - i) * n) (pow-succ' 2 i), pow-succ' 2 j, powers i j (omega arith))

-- the twos that two numbers share, and the divisor of their odd parts
pub twos_shared : (a b x y i j r : ℕ) → x % 2 ≡ 1 → y % 2 ≡ 1 → x * 2 ^ i ≡ a → y * 2 ^ j ≡ b → IsGcd x y r → IsGcd a b (r * 2 ^ min i j)
twos_shared a b x y i j r odd odd' is is' gcd =
    elim (cases_lt i j) [
      | inl less ↦ subst (λ n. IsGcd a b (r * 2 ^ n)) (sym (min-eq_left (omega arith))) (by a b x y i j odd is is' (omega arith) gcd)
      | inr more ↦ subst (λ n. IsGcd a b (r * 2 ^ n)) (sym (min-eq_right more)) (IsGcd-swap b a _ (by b a y x j i odd' is' is more (IsGcd-swap x y r gcd)))
    ]
  where
    by : (a b x y i j : ℕ) → x % 2 ≡ 1 → x * 2 ^ i ≡ a → y * 2 ^ j ≡ b → i ≤ j → IsGcd x y r → IsGcd a b (r * 2 ^ i)
    by a b x y i j odd is is' h gcd =
        let e : y * 2 ^ (j - i) * 2 ^ i ≡ b = omega (arith, ap (λ n. y * n) (powers i j h), is') in
        subst (λ n. IsGcd n b (r * 2 ^ i)) is (subst (λ n. IsGcd (x * 2 ^ i) n (r * 2 ^ i)) e
        (IsGcd-times x (y * 2 ^ (j - i)) r (2 ^ i) (power_some i) (with_twos x y (j - i) r odd gcd)))

-- ---- 1 shares nothing with any number
pub one_first : (a b : ℕ) → a ≡ 1 → IsGcd a b 1
one_first a b e = (one-dvd a, one-dvd b, λ d p q. subst (λ n. d ∣ n) e p)

pub one_second : (a b : ℕ) → b ≡ 1 → IsGcd a b 1
one_second a b e = (one-dvd a, one-dvd b, λ d p q. subst (λ n. d ∣ n) e q)
