-- A row is a multiple of one normal form at most.
use Rattle.std.proofs.Common.{◌≡◌, ℕ, ℤ, zero, suc, pos, negsuc, ◌*◌, ◌/◌, ◌<◌, arith, refl, sym, ap, ap₂, subst, ◌∙◌, false, [], ◌∷◌, unsigned_abs}
use Rattle.std.proofs.Math.IntN.{◌*ℤ◌}
use Rattle.std.proofs.Math.Nat.{div-mul_cancel, eq-zero_of_zero-dvd, mul-pos, dvd_of_mul-dvd-mul_right, eq_of_mul-eq-mul_left, pos_of_dvd_of_pos}
use Rattle.std.proofs.lemmas.Int.{ints, unsigned_abs-mul}
use Rattle.std.proofs.lemmas.Nat.Gcd.{dvd_antisymm}
use Rattle.std.specs.Int.{◌∣◌}
use Rattle.std.specs.Int.Signed.{◌<ℤ◌}
use Rattle.lq_base_numbers.specs.Rationals.Coprime.{Coprime, Coprime-from_gcd, euclid}
use Rattle.lq_base_numbers.specs.Rationals.IntOrder.{mul_cancel}
use Rattle.lq_base_numbers.specs.Rationals.IntRing.{at, nat, ◌⊗◌, ring, ring_out}
use Rattle.lq_base_numbers.specs.Rationals.Lcm.{gcd_exists}
use Rattle.lq_logic_rows.specs.Forms.{Parts, DividesAll, FirstAbove, IsNormal, times, IsMultiple}
use Rattle.lq_prover_pivots.specs.Work.Sizes.{IsDivisor}
use Rattle.lq_prover_pivots.proofs.WorkLemmas.Scaled.{some_size}
use Rattle.lq_prover_pivots.proofs.WorkLemmas.Rows.{times_divides}

-- ---- the factor is the greatest number that divides all
divides_each : (x y d : ℕ) (f : ℤ) (parts : Parts) → 0 < d → Coprime x y → y * d ≡ unsigned_abs f → DividesAll (x * d) (times f parts) → DividesAll x parts
divides_each x y d f [] some apart e h = tt
divides_each x y d f (part ∷ parts) some apart e h =
    let size : unsigned_abs (f *ℤ part.1) ≡ unsigned_abs f * unsigned_abs part.1 = unsigned_abs-mul f part.1 in
    let same = ap (λ t. t * unsigned_abs part.1) e in
    let turned : unsigned_abs (f *ℤ part.1) ≡ y * unsigned_abs part.1 * d = omega (arith, size, same) in
    let divides : x * d ∣ y * unsigned_abs part.1 * d = subst (λ t. x * d ∣ t) turned h.0 in
    (euclid x y (unsigned_abs part.1) apart (dvd_of_mul-dvd-mul_right x some divides), divides_each x y d f parts some apart e h.1)

pub divides_factor : (e : ℕ) (f : ℤ) (form : Parts) → 0 < e → 0 < unsigned_abs f → IsNormal form → DividesAll e (times f form) → e ∣ unsigned_abs f
divides_factor e f form some apart normal h =
    let d = gcd_exists e (unsigned_abs f) in
    let positive : 0 < d.0 = pos_of_dvd_of_pos d.1.0 some in
    let u : e / d.0 * d.0 ≡ e = div-mul_cancel d.0 d.1.0 in
    let v : unsigned_abs f / d.0 * d.0 ≡ unsigned_abs f = div-mul_cancel d.0 d.1.1 in
    let coprime : Coprime (e / d.0) (unsigned_abs f / d.0) = Coprime-from_gcd e (unsigned_abs f) d.0 apart d.1 in
    let one : e / d.0 ≡ 1 =
    normal.lowest (e / d.0)
    (divides_each (e / d.0) (unsigned_abs f / d.0) d.0 f form positive coprime v (subst (λ t. DividesAll t (times f form)) (sym u) h)) in
    let same : d.0 ≡ e = (let k : 1 * d.0 ≡ e = subst (λ k. k * d.0 ≡ e) one u in omega arith) in
    subst (λ t. t ∣ unsigned_abs f) same d.1.1

same_size : (f g : ℤ) (form other : Parts) → 0 < unsigned_abs f → 0 < unsigned_abs g → IsNormal form → IsNormal other → times f form ≡ times g other
    → unsigned_abs f ≡ unsigned_abs g
same_size f g form other some more normal next e =
    dvd_antisymm
    (divides_factor (unsigned_abs f) g other some more next (subst (λ (ps : Parts). DividesAll (unsigned_abs f) ps) e (times_divides f form)))
    (divides_factor (unsigned_abs g) f form more some normal (subst (λ (ps : Parts). DividesAll (unsigned_abs g) ps) (sym e) (times_divides g other)))

-- ---- so is its sign
cancel : (x y c : ℤ) → ¬ (c ≡ pos 0) → c *ℤ x ≡ c *ℤ y → x ≡ y
cancel x y (pos zero) n e = absurd (n refl)
cancel x y (pos (suc k)) n e =
    mul_cancel x y (pos (suc k)) (omega (arith, ints))
    (ring (at x ⊗ nat (suc k)) (at y ⊗ nat (suc k)) (omega (arith, ring_out (nat (suc k) ⊗ at x) (nat (suc k) ⊗ at y) e)))
cancel x y (negsuc k) n e =
    mul_cancel x y (pos (suc k)) (omega (arith, ints))
    (ring (at x ⊗ nat (suc k)) (at y ⊗ nat (suc k)) (omega (arith, ring_out (at (negsuc k) ⊗ at x) (at (negsuc k) ⊗ at y) e)))

same_above : (x y : ℤ) → pos 0 <ℤ x → pos 0 <ℤ y → unsigned_abs x ≡ unsigned_abs y → x ≡ y
same_above x y h k e = omega (arith, ints)

cons_same : (x y : ℕ × ℤ) (xs ys : Parts) → x ∷ xs ≡ y ∷ ys → (x ≡ y) × (xs ≡ ys)
cons_same x y xs ys e = ((cc), (cc))

-- the first coefficients are both above 0, so equal, so the factors are
same_factor : (f g : ℤ) (form other : Parts) → ¬ (f ≡ pos 0) → unsigned_abs f ≡ unsigned_abs g → FirstAbove false form → FirstAbove false other
    → times f form ≡ times g other → f ≡ g
same_factor f g [] other some size h k e = absurd h
same_factor f g (p ∷ form) [] some size h k e = absurd k
same_factor f g (p ∷ form) (q ∷ other) some size h k e =
    let first : f *ℤ p.1 ≡ g *ℤ q.1 =
    ap (λ (x : ℕ × ℤ). x.1) (cons_same (p.0, f *ℤ p.1) (q.0, g *ℤ q.1) (times f form) (times g other) e).0 in
    let sizes : unsigned_abs f * unsigned_abs p.1 ≡ unsigned_abs f * unsigned_abs q.1 =
    sym (unsigned_abs-mul f p.1) ∙ ap unsigned_abs first ∙ unsigned_abs-mul g q.1 ∙ ap (λ t. t * unsigned_abs q.1) (sym size) in
    let one : p.1 ≡ q.1 =
    same_above p.1 q.1 h k (eq_of_mul-eq-mul_left (unsigned_abs f) (some_size f some) (unsigned_abs p.1) (unsigned_abs q.1) sizes) in
    let both : f *ℤ q.1 ≡ g *ℤ q.1 = subst (λ t. f *ℤ t ≡ g *ℤ q.1) one first in
    mul_cancel f g q.1 k both

same_times : (f : ℤ) (form other : Parts) → ¬ (f ≡ pos 0) → times f form ≡ times f other → form ≡ other
same_times f [] [] some e = refl
same_times f [] (q ∷ other) some e = absurd (cc)
same_times f (p ∷ form) [] some e = absurd (cc)
same_times f (p ∷ form) (q ∷ other) some e =
    let both = cons_same (p.0, f *ℤ p.1) (q.0, f *ℤ q.1) (times f form) (times f other) e in
    let term : p.0 ≡ q.0 = ap (λ (x : ℕ × ℤ). x.0) both.0 in
    let one : p.1 ≡ q.1 = cancel p.1 q.1 f some (ap (λ (x : ℕ × ℤ). x.1) both.0) in
    ap₂ (λ (x : ℕ × ℤ) (xs : Parts). x ∷ xs) (ap₂ (λ (t : ℕ) (z : ℤ). (t, z)) term one) (same_times f form other some both.1)

pub normal_once : (parts form other : Parts) → IsNormal form → IsNormal other → IsMultiple form parts → IsMultiple other parts → form ≡ other
normal_once parts form other normal next m n =
    let e : times m.factor form ≡ times n.factor other = sym m.is ∙ n.is in
    let size = same_size m.factor n.factor form other (some_size m.factor m.some) (some_size n.factor n.some) normal next e in
    let f : m.factor ≡ n.factor = same_factor m.factor n.factor form other m.some size normal.above next.above e in
    same_times m.factor form other m.some (e ∙ ap (λ t. times t other) (sym f))

-- ---- so it is the row's divisor
some_divides : (e : ℕ) (f : ℤ) (form : Parts) → ¬ (f ≡ pos 0) → FirstAbove false form → DividesAll e (times f form) → 0 < e
some_divides e f [] some above h = absurd above
some_divides zero f (p ∷ form) some above h =
    let size : unsigned_abs (f *ℤ p.1) ≡ unsigned_abs f * unsigned_abs p.1 = unsigned_abs-mul f p.1 in
    let none : unsigned_abs f * unsigned_abs p.1 ≡ 0 = sym size ∙ eq-zero_of_zero-dvd h.0 in
    let first : 0 < unsigned_abs p.1 = omega (arith, ints) in
    absurd (let s = some_size f some in let m : 0 < unsigned_abs f * unsigned_abs p.1 = mul-pos s first in omega arith)
some_divides (suc e) f (p ∷ form) some above h = omega arith

pub factor_is_divisor : (f : ℤ) (form : Parts) → ¬ (f ≡ pos 0) → IsNormal form → IsDivisor (times f form) (unsigned_abs f)
factor_is_divisor f [] some normal = absurd normal.above
factor_is_divisor f (p ∷ form) some normal = record {
  divides = times_divides f (p ∷ form);
  greatest = λ d h. divides_factor d f (p ∷ form) (some_divides d f (p ∷ form) some normal.above h) (some_size f some) normal h;
}
