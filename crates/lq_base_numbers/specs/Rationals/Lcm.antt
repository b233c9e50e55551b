-- The least common multiple of two numbers above 0: there is one, and no other. Example: `multiple_of_four_and_six`.
use Rattle.std.proofs.Common.{◌≡◌, inl, inr, ℕ, zero, suc, ◌*◌, ◌/◌, ◌%◌, ◌<◌, arith, refl, sym, ap, subst, ◌∙◌, mod-lt}
use Rattle.std.proofs.Math.Nat.{div-mul_cancel, mul-pos, pos_of_dvd_of_pos, dvd_of_mul-dvd-mul_right, mul-dvd-mul_right, dvd-mul_left, dvd-mul_right, mul-div_cancel}
use Rattle.std.proofs.lemmas.Nat.Gcd.{dvd_antisymm, IsGcd-from_zero, IsGcd-from_mod}
use Rattle.std.specs.Int.{IsGcd, ◌∣◌}
use Rattle.lq_base_numbers.specs.Rationals.Coprime.{Coprime, Coprime-from_gcd, euclid, zero_or}

abbrev pub IsLcm : ℕ → ℕ → ℕ → Type 0
IsLcm b d m = (b ∣ m) × (d ∣ m) × ((k : ℕ) → b ∣ k → d ∣ k → m ∣ k)

-- the multiple that Euclid's loop gives
pub lcm_from_gcd : (b d g : ℕ) → 0 < b → 0 < d → IsGcd b d g → IsLcm b d (b / g * d) × (b / g * d / b ≡ d / g) × (b / g * d / d ≡ b / g)
lcm_from_gcd b d g p q gcd =
    let bb : b / g * g ≡ b = div-mul_cancel g gcd.0 in
    let dd : d / g * g ≡ d = div-mul_cancel g gcd.1 in
    let turned : b / g * d ≡ d / g * b = omega (arith, ap (λ x. b / g * x) dd, ap (λ x. d / g * x) bb) in
    let some : 0 < g = pos_of_dvd_of_pos gcd.1 q in
    let apart : Coprime (b / g) (d / g) = Coprime-from_gcd b d g q gcd in
    let least : (k : ℕ) → b ∣ k → d ∣ k → b / g * d ∣ k =
    (λ k r s.
    let t : k / d * d ≡ k = div-mul_cancel d s in
    let u : b / g * g ∣ d / g * (k / d) * g =
    subst (λ x. x ∣ d / g * (k / d) * g) (sym bb) (subst (λ x. b ∣ x) (sym t ∙ omega (arith, ap (λ x. x * (k / d)) dd)) r) in
    let v : b / g ∣ d / g * (k / d) = dvd_of_mul-dvd-mul_right (b / g) some u in
    let w : b / g ∣ k / d = euclid (b / g) (d / g) (k / d) apart v in
    subst (λ x. b / g * d ∣ x) t (mul-dvd-mul_right (b / g) w d)) in (
      (subst (λ x. b ∣ x) (sym turned) (dvd-mul_left b (d / g)), dvd-mul_left d (b / g), least),
      ap (λ x. x / b) turned ∙ mul-div_cancel (d / g) p,
      mul-div_cancel (b / g) q,
    )

pub lcm_once : (b d m k : ℕ) → IsLcm b d m → IsLcm b d k → m ≡ k
lcm_once b d m k p q = dvd_antisymm (p.2 k q.0 q.1) (q.2 m p.0 p.1)

-- Euclid's steps give a greatest common divisor, so there is a least common multiple
pub gcd_exists : (a b : ℕ) → (g : ℕ) × IsGcd a b g
gcd_exists a b = by (suc b) a b (omega arith)
  where
    by : (fuel a b : ℕ) → b < fuel → (g : ℕ) × IsGcd a b g
    by zero a b small = absurd (omega arith)
    by (suc fuel) a b small =
        elim (zero_or b) [
          | inl none ↦ (a, IsGcd-from_zero a b none)
          | inr some ↦
              let under : a % b < b = mod-lt a some in
              let rest = by fuel b (a % b) (omega arith) in (rest.0, IsGcd-from_mod a b rest.0 rest.1)
        ]

pub lcm_exists : (b d : ℕ) → 0 < b → 0 < d → (m : ℕ) × IsLcm b d m
lcm_exists b d p q = let g = gcd_exists b d in (b / g.0 * d, (lcm_from_gcd b d g.0 p q g.1).0)

pub lcm_positive : (b d m : ℕ) → 0 < b → 0 < d → IsLcm b d m → 0 < m
lcm_positive b d m p q l = pos_of_dvd_of_pos (l.2 (b * d) (dvd-mul_right b d) (dvd-mul_left d b)) (mul-pos p q)

-- an example of use, by the steps of Euclid's loop
multiple_of_four_and_six : IsLcm 4 6 12
multiple_of_four_and_six =
    let gcd : IsGcd 4 6 2 = IsGcd-from_mod 4 6 2 (IsGcd-from_mod 6 4 2 (IsGcd-from_mod 4 2 2 (IsGcd-from_zero 2 0 refl))) in
    (lcm_from_gcd 4 6 2 (omega arith) (omega arith) gcd).0
