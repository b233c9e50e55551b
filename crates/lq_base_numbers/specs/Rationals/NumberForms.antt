-- Which numbers and sums have a form within 128 bits. A number has one where its lowest terms are within i128. A sum or a difference
-- of two fractions is brought over the least common multiple of the denominators, and this multiple, both numerators over it and their
-- sum or difference have to be within i128. Example: `half_is_a_form`.
use Rattle.std.proofs.Common.{◌≡◌, ℕ, ◌*◌, ◌/◌, ◌<◌, ◌^◌, arith, refl, sym, ap, subst, ◌∙◌, unsigned_abs, FitsSigned, rules}
use Rattle.std.proofs.Math.IntN.{ℤ, pos, ◌+ℤ◌, ◌-ℤ◌, ◌*ℤ◌}
use Rattle.std.proofs.Math.Nat.{div-mul_cancel, mul-pos}
use Rattle.std.specs.Int.{w128}
use borrow.Author.Differences.{up, down}
use Rattle.std.proofs.Math.Nat.{eq-one_of_dvd-one}
use Rattle.lq_base_numbers.specs.Rationals.Coprime.{Coprime}
use Rattle.lq_base_numbers.specs.Rationals.LowestTerms.{IsLowest, lowest_terms_once}
use Rattle.lq_base_numbers.specs.Rationals.IntRing.{at, nat, ◌⊗◌, ◌⊕◌, ◌⊖◌, ring}
use Rattle.lq_base_numbers.specs.Rationals.Lcm.{IsLcm, lcm_once}
use Rattle.lq_base_numbers.specs.Rationals.Ratios.{ratio-sum, ratio-difference}
use Rattle.lq_base_numbers.specs.Rationals.Rational.{ℚ, ratio, ◌+ℚ◌, ◌-ℚ◌}
use Rattle.lq_base_numbers.specs.Rationals.RationalOrder.{ratio_from_cross}

-- n / d is a form of x: in lowest terms, within i128
pub record IsForm (x : ℚ) (n : ℤ) (d : ℕ) : Type 0 where
  pub positive : 0 < d
  pub lowest : Coprime (unsigned_abs n) d
  pub same : ratio n d ≡ x
  pub numer_fits : FitsSigned w128 n
  pub denom_fits : d < 2 ^ 127

-- x has no numerator and denominator in lowest terms within i128
abbrev pub HasNoForm : ℚ → Type 0
HasNoForm x = (n : ℤ) (d : ℕ) → ¬ (IsForm x n d)

-- x is n / e in lowest terms, and one of the two is past i128
pub HasNoForm-from : (x : ℚ) (n : ℤ) (e : ℕ) → IsLowest x n e → ¬ (FitsSigned w128 n × (e < 2 ^ 127)) → HasNoForm x
HasNoForm-from x n e low past m d form =
    let once = lowest_terms_once x n m e d low (record { positive = form.positive; lowest = form.lowest; same = form.same }) in
    past (subst (λ k. FitsSigned w128 k) (sym once.0) form.numer_fits, subst (λ k. k < 2 ^ 127) (sym once.1) form.denom_fits)

-- an example of use
half_is_a_form : IsForm (ratio (pos 1) 2) (pos 1) 2
half_is_a_form = record {
  positive = omega arith;
  lowest = λ k p q. eq-one_of_dvd-one p;
  same = refl;
  numer_fits = search rules;
  denom_fits = omega arith;
}

-- ---- sums and differences over the least common multiple of the denominators

-- a / b and c / d over the multiple m: it, the two numerators, and what `op` makes of them, are within i128
pub record Fits (op : ℤ → ℤ → ℤ) (a c : ℤ) (b d m : ℕ) : Type 0 where
  pub multiple : m < 2 ^ 127
  pub first : FitsSigned w128 (a *ℤ pos (m / b))
  pub second : FitsSigned w128 (c *ℤ pos (m / d))
  pub total : FitsSigned w128 (op (a *ℤ pos (m / b)) (c *ℤ pos (m / d)))

abbrev pub HasFormBy : (ℤ → ℤ → ℤ) → ℤ → ℤ → ℕ → ℕ → Type 0
HasFormBy op a c b d = (m : ℕ) → IsLcm b d m → Fits op a c b d m

abbrev pub HasNoFormBy : (ℤ → ℤ → ℤ) → ℤ → ℤ → ℕ → ℕ → Type 0
HasNoFormBy op a c b d = (m : ℕ) → IsLcm b d m → ¬ (Fits op a c b d m)

-- a / b + c / d
abbrev pub HasSumForm : ℤ → ℤ → ℕ → ℕ → Type 0
HasSumForm = HasFormBy (λ x y. x +ℤ y)

abbrev pub HasNoSumForm : ℤ → ℤ → ℕ → ℕ → Type 0
HasNoSumForm = HasNoFormBy (λ x y. x +ℤ y)

-- a / b - c / d
abbrev pub HasDifferenceForm : ℤ → ℤ → ℕ → ℕ → Type 0
HasDifferenceForm = HasFormBy (λ x y. x -ℤ y)

abbrev pub HasNoDifferenceForm : ℤ → ℤ → ℕ → ℕ → Type 0
HasNoDifferenceForm = HasNoFormBy (λ x y. x -ℤ y)

-- it is enough to know one least common multiple
pub HasFormBy-from : (op : ℤ → ℤ → ℤ) (a c : ℤ) (b d m : ℕ) → IsLcm b d m → Fits op a c b d m → HasFormBy op a c b d
HasFormBy-from op a c b d m least fits k other = subst (λ x. Fits op a c b d x) (lcm_once b d m k least other) fits

pub HasNoFormBy-from : (op : ℤ → ℤ → ℤ) (a c : ℤ) (b d m : ℕ) → IsLcm b d m → ¬ (Fits op a c b d m) → HasNoFormBy op a c b d
HasNoFormBy-from op a c b d m least past k other fits = past (subst (λ x. Fits op a c b d x) (lcm_once b d k m other least) fits)

-- what two fractions over a common multiple sum to
pub sum_over : (a c : ℤ) (b d m : ℕ) → 0 < b → 0 < d → 0 < m → IsLcm b d m
    → ratio (a *ℤ pos (m / b) +ℤ c *ℤ pos (m / d)) m ≡ ratio a b +ℚ ratio c d
sum_over a c b d m p q some least =
    ratio_from_cross (a *ℤ pos (m / b) +ℤ c *ℤ pos (m / d)) (a *ℤ pos d +ℤ c *ℤ pos b) m (b * d) some (mul-pos p q)
    (cross (m / b) (m / d) (div-mul_cancel b least.0) (div-mul_cancel d least.1))
    ∙ sym (ratio-sum a c b d p q)
  where
    cross : (j k : ℕ) → j * b ≡ m → k * d ≡ m → (a *ℤ pos j +ℤ c *ℤ pos k) *ℤ pos (b * d) ≡ (a *ℤ pos d +ℤ c *ℤ pos b) *ℤ pos m
    cross j k e f =
        ring ((at a ⊗ nat j ⊕ at c ⊗ nat k) ⊗ nat (b * d)) ((at a ⊗ nat d ⊕ at c ⊗ nat b) ⊗ nat m)
        (omega (arith, ap (λ x. up a * d * x) e, ap (λ x. down a * d * x) e, ap (λ x. up c * b * x) f, ap (λ x. down c * b * x) f))

pub difference_over : (a c : ℤ) (b d m : ℕ) → 0 < b → 0 < d → 0 < m → IsLcm b d m
    → ratio (a *ℤ pos (m / b) -ℤ c *ℤ pos (m / d)) m ≡ ratio a b -ℚ ratio c d
difference_over a c b d m p q some least =
    ratio_from_cross (a *ℤ pos (m / b) -ℤ c *ℤ pos (m / d)) (a *ℤ pos d -ℤ c *ℤ pos b) m (b * d) some (mul-pos p q)
    (cross (m / b) (m / d) (div-mul_cancel b least.0) (div-mul_cancel d least.1))
    ∙ sym (ratio-difference a c b d p q)
  where
    cross : (j k : ℕ) → j * b ≡ m → k * d ≡ m → (a *ℤ pos j -ℤ c *ℤ pos k) *ℤ pos (b * d) ≡ (a *ℤ pos d -ℤ c *ℤ pos b) *ℤ pos m
    cross j k e f =
        ring ((at a ⊗ nat j ⊖ at c ⊗ nat k) ⊗ nat (b * d)) ((at a ⊗ nat d ⊖ at c ⊗ nat b) ⊗ nat m)
        (omega (arith, ap (λ x. up a * d * x) e, ap (λ x. down a * d * x) e, ap (λ x. up c * b * x) f, ap (λ x. down c * b * x) f))
