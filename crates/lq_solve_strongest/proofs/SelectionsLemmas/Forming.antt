-- A row with terms is a multiple of a normal form.
use Rattle.std.proofs.Common.{◌≡◌, ◌≢◌, ℕ, ℤ, zero, suc, pos, negsuc, ◌*◌, ◌<◌, arith, refl, sym, ap, ap₂, subst, ◌∙◌, false, [], ◌∷◌, unsigned_abs}
use Rattle.std.specs.Int.{◌∣◌}
use Rattle.std.specs.Int.Signed.{◌<ℤ◌}
use Rattle.std.proofs.Math.IntN.{◌-ℤ◌, ◌*ℤ◌, *ℤ_comm, zero-*ℤ}
use Rattle.std.proofs.Math.Nat.{dvd_of_mul-dvd-mul_right, eq-one_of_dvd-one, mul-dvd-mul_right, pos_of_dvd_of_pos}
use Rattle.std.proofs.lemmas.Int.{ints, unsigned_abs-mul}
use Rattle.std.proofs.lemmas.List.Elements.{All-head, All-tail}
use Rattle.lq_base_numbers.specs.Rationals.IntOrder.{lt_of_mul_lt}
use Rattle.lq_base_numbers.specs.Rationals.IntRing.{at, nat, ◌⊗◌, ◌⊖◌, ring}
use Rattle.lq_logic_rows.specs.Forms.{Parts, DividesAll, FirstAbove, IsNormal, IsMultiple, times}
use Rattle.lq_prover_pivots.proofs.WorkLemmas.Rows.{divisor_exists, times_of}
use Rattle.lq_prover_pivots.proofs.WorkLemmas.Scaled.{some_size}
use Rattle.lq_solve_strongest.proofs.SelectionsLemmas.Entries.{AreSome}

-- ---- quotients
negative : (x y : ℤ) → x *ℤ (pos 0 -ℤ y) ≡ pos 0 -ℤ x *ℤ y
negative x y = ring (at x ⊗ (nat 0 ⊖ at y)) (nat 0 ⊖ at x ⊗ at y) (omega arith)

quotient : (x z : ℤ) → z ≢ pos 0 → unsigned_abs x ∣ unsigned_abs z → (y : ℤ) × (z ≡ x *ℤ y)
quotient x (pos n) some h = let q = times_of x n (some_size (pos n) some) h in (q.by, q.is)
quotient x (negsuc n) some h =
    let q = times_of x (suc n) (omega arith) h in
    (pos 0 -ℤ q.by, (let e : negsuc n ≡ pos 0 -ℤ pos (suc n) = omega (arith, ints) in e) ∙ ap (λ w. pos 0 -ℤ w) q.is ∙ sym (negative x q.by))

divided : (x : ℤ) (parts : Parts) → AreSome parts → DividesAll (unsigned_abs x) parts → (f : Parts) × (parts ≡ times x f)
divided x [] some h = ([], refl)
divided x (p ∷ parts) some h =
    let q = quotient x p.1 (All-head (λ (y : ℕ × ℤ). y.1 ≢ pos 0) p parts some) h.0 in
    let rest = divided x parts (All-tail (λ (y : ℕ × ℤ). y.1 ≢ pos 0) p parts some) h.1 in
    ((p.0, q.0) ∷ rest.0, ap₂ (λ z qs. (p.0, z) ∷ qs) q.1 rest.1)

-- ---- the sign
above_factor : (k : ℕ) (y : ℤ) → pos 0 <ℤ (pos (suc k) *ℤ y) → pos 0 <ℤ y
above_factor k y h =
    lt_of_mul_lt (pos 0) y (pos (suc k)) (omega (arith, ints))
    (subst (λ z. z <ℤ (y *ℤ pos (suc k))) (sym (zero-*ℤ (pos (suc k)))) (subst (λ z. pos 0 <ℤ z) (*ℤ_comm (pos (suc k)) y) h))

turned : (k : ℕ) (y : ℤ) → pos 0 -ℤ negsuc k *ℤ y ≡ pos (suc k) *ℤ y
turned k y = ring (nat 0 ⊖ at (negsuc k) ⊗ at y) (nat (suc k) ⊗ at y) (omega arith)

-- a number of this size by which the other becomes one above 0
record IsSign (z : ℤ) (g : ℕ) : Type 0 where
  factor : ℤ
  size : unsigned_abs factor ≡ g
  some : factor ≢ pos 0
  above : (y : ℤ) → z ≡ factor *ℤ y → pos 0 <ℤ y

sign_of : (z : ℤ) (g : ℕ) → 0 < g → z ≢ pos 0 → IsSign z g
sign_of z zero l some = absurd (omega arith)
sign_of (pos n) (suc k) l some = record {
  factor = pos (suc k);
  size = refl;
  some = λ e. absurd (omega (arith, ints));
  above = λ y e. above_factor k y (subst (λ w. pos 0 <ℤ w) e (let h = some_size (pos n) some in omega (arith, ints)));
}
sign_of (negsuc n) (suc k) l some = record {
  factor = negsuc k;
  size = refl;
  some = λ e. absurd (omega (arith, ints));
  above = λ y e. above_factor k y (subst (λ w. pos 0 <ℤ w) (turned k y) (subst (λ w. pos 0 <ℤ (pos 0 -ℤ w)) e (omega (arith, ints))));
}

-- ---- the form
times_more : (d : ℕ) (x : ℤ) (parts : Parts) → DividesAll d parts → DividesAll (d * unsigned_abs x) (times x parts)
times_more d x [] h = tt
times_more d x (p ∷ parts) h =
    let e : unsigned_abs p.1 * unsigned_abs x ≡ unsigned_abs (x *ℤ p.1) =
    (let c : unsigned_abs p.1 * unsigned_abs x ≡ unsigned_abs x * unsigned_abs p.1 = omega arith in c) ∙ sym (unsigned_abs-mul x p.1) in
    (subst (λ n. d * unsigned_abs x ∣ n) e (mul-dvd-mul_right d h.0 (unsigned_abs x)), times_more d x parts h.1)

abbrev first_of : Parts → ℤ
first_of [] = pos 0
first_of (p ∷ parts) = p.1

first_above : (f : Parts) (z x : ℤ) → z ≢ pos 0 → z ≡ first_of (times x f) → ((y : ℤ) → z ≡ x *ℤ y → pos 0 <ℤ y) → FirstAbove false f
first_above [] z x some e h = absurd (some e)
first_above (q ∷ f) z x some e h = h q.1 e

pub record HasForm (parts : Parts) : Type 0 where
  pub form : Parts
  pub normal : IsNormal form
  pub multiple : IsMultiple form parts

pub form_of : (parts : Parts) → parts ≢ [] → AreSome parts → HasForm parts
form_of [] there some = absurd (there refl)
form_of (p ∷ parts) there some =
    let d = divisor_exists (p ∷ parts) in
    let first : p.1 ≢ pos 0 = All-head (λ (y : ℕ × ℤ). y.1 ≢ pos 0) p parts some in
    let positive : 0 < d.0 = pos_of_dvd_of_pos d.1.divides.0 (some_size p.1 first) in
    let s = sign_of p.1 d.0 positive first in
    let f = divided s.factor (p ∷ parts) some (subst (λ n. DividesAll n (p ∷ parts)) (sym s.size) d.1.divides) in
    record {
      form = f.0;
      normal = record {
        above = first_above f.0 p.1 s.factor first (ap first_of f.1) s.above;
        lowest = λ e h.
            let whole : DividesAll (e * d.0) (p ∷ parts) =
            subst (DividesAll (e * d.0)) (sym f.1) (subst (λ n. DividesAll (e * n) (times s.factor f.0)) s.size (times_more e s.factor f.0 h)) in
            let divides : e * d.0 ∣ 1 * d.0 = subst (λ n. e * d.0 ∣ n) (let q : d.0 ≡ 1 * d.0 = omega arith in q) (d.1.greatest (e * d.0) whole) in
            eq-one_of_dvd-one (dvd_of_mul-dvd-mul_right e positive divides);
      };
      multiple = record { factor = s.factor; some = s.some; is = f.1 };
    }
