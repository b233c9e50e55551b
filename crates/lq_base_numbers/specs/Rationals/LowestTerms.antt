-- Each rational is n / d in lowest terms for one n and one d. Example: `half_in_lowest_terms`.
use Rattle.std.proofs.Common.{◌≡◌, ℕ, zero, suc, ◌*◌, ◌<◌, ◌-◌, arith, refl, sym, ap, ap₂, subst, ◌∙◌, unsigned_abs}
use Rattle.std.proofs.Math.IntN.{ℤ, pos, negsuc, ◌*ℤ◌}
use Rattle.std.proofs.lemmas.Int.{ints, unsigned_abs-mul}
use Rattle.std.proofs.Math.Nat.{eq-one_of_dvd-one, ∣_prop}
use Rattle.std.proofs.Props.{props}
use std.HLevel.{Σ_prop_path}
use std.Quotient.{/_set, /_elim_prop}
use Rattle.lq_base_numbers.specs.Rationals.Coprime.{Coprime, lowest_once}
use Rattle.lq_base_numbers.specs.Rationals.Lcm.{gcd_exists}
use Rattle.lq_base_numbers.specs.Rationals.Pairs.{Pair, Same}
use Rattle.lq_base_numbers.specs.Rationals.Rational.{ℚ, class, ratio}
use Rattle.lq_base_numbers.specs.Rationals.RationalOrder.{cross_from_ratio}
use Rattle.lq_base_numbers.specs.Rationals.Reduction.{reduced}

-- x is n / d in lowest terms
pub record IsLowest (x : ℚ) (n : ℤ) (d : ℕ) : Type 0 where
  pub positive : 0 < d
  pub lowest : Coprime (unsigned_abs n) d
  pub same : ratio n d ≡ x

-- a whole number is known by its size and by the sign of its multiples
signed : (n m : ℤ) (e d : ℕ) → 0 < e → unsigned_abs n ≡ unsigned_abs m → e ≡ d → n *ℤ pos d ≡ m *ℤ pos e → n ≡ m
signed (pos k) (pos j) e d some s t c = ap pos s
signed (negsuc k) (negsuc j) e d some s t c = omega (arith, ints, s)
signed (pos k) (negsuc j) (suc e) (suc d) some s t c = absurd (omega (arith, ints))
signed (negsuc k) (pos j) (suc e) (suc d) some s t c = absurd (omega (arith, ints))
signed (pos k) (negsuc j) zero d some s t c = absurd (omega (arith))
signed (negsuc k) (pos j) zero d some s t c = absurd (omega (arith))
signed (pos k) (negsuc j) (suc e) zero some s t c = absurd (omega (arith))
signed (negsuc k) (pos j) (suc e) zero some s t c = absurd (omega (arith))

pub lowest_terms_once : (x : ℚ) (n m : ℤ) (d e : ℕ) → IsLowest x n d → IsLowest x m e → (n ≡ m) × (d ≡ e)
lowest_terms_once x n m d e h k =
    let cross : n *ℤ pos e ≡ m *ℤ pos d = cross_from_ratio n m d e h.positive k.positive (h.same ∙ sym k.same) in
    let sizes : unsigned_abs n * e ≡ unsigned_abs m * d =
    sym (unsigned_abs-mul n (pos e)) ∙ ap unsigned_abs cross ∙ unsigned_abs-mul m (pos d) in
    let once = lowest_once (unsigned_abs n) d (unsigned_abs m) e h.positive k.positive h.lowest k.lowest sizes in
    (signed n m d e h.positive once.0 once.1 cross, once.1)

-- every fraction has its lowest terms
pub lowest_terms_of : (n : ℤ) (d : ℕ) → 0 < d → (m : ℤ) × (e : ℕ) × IsLowest (ratio n d) m e
lowest_terms_of n d some =
    let g = gcd_exists (unsigned_abs n) d in
    let r = reduced n d g.0 some g.1 in
    (_, _, record { positive = r.positive; lowest = r.lowest; same = r.same })

IsLowest-prop : (x : ℚ) (n : ℤ) (d : ℕ) → IsProp (IsLowest x n d)
IsLowest-prop x n d = hlevel (props, ∣_prop, /_set {A = Pair} {R = Same})

pub lowest_terms : (x : ℚ) → (p : ℤ × ℕ) × IsLowest x p.0 p.1
lowest_terms =
    /_elim_prop (λ x. (p : ℤ × ℕ) × IsLowest x p.0 p.1) (λ x h k.
    let once = lowest_terms_once x h.0.0 k.0.0 h.0.1 k.0.1 h.1 k.1 in
    Σ_prop_path (λ p. IsLowest-prop x p.0 p.1) (ap₂ (λ n d. (n, d)) once.0 once.1))
    (λ a. let form = lowest_terms_of a.0 (suc a.1) (omega arith) in
    let e : suc a.1 - 1 ≡ a.1 = omega arith in
    ((form.0, form.1), subst (λ d. IsLowest (class (a.0, d)) form.0 form.1) e form.2))

-- an example of use
half_in_lowest_terms : IsLowest (ratio (pos 1) 2) (pos 1) 2
half_in_lowest_terms = record { positive = omega arith; lowest = λ k p q. eq-one_of_dvd-one p; same = refl }
