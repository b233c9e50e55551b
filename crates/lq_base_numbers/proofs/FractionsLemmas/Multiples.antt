-- Sums and differences over the least common multiple of the denominators, from what the code computes.
use Rattle.std.proofs.Common.{◌≡◌, ℕ, ◌*◌, ◌/◌, ◌<◌, ◌^◌, ap, ap₂, sym, subst, ◌∙◌, FitsSigned, to_z, of_z, Option, Some, None, IfNone}
use Rattle.std.proofs.Math.IntN.{ℤ, pos, ◌*ℤ◌, ◌+ℤ◌, ◌-ℤ◌}
use Rattle.std.proofs.Math.Nat.{mul-pos}
use Rattle.std.specs.Int.{IsGcd, w128}
use Rattle.std.proofs.lemmas.Int.{to_z-of_z}
use Rattle.lq_base_numbers.specs.Rationals.NumberForms.{HasFormBy, HasNoFormBy, HasFormBy-from, HasNoFormBy-from, sum_over, difference_over}
use Rattle.lq_base_numbers.specs.Rationals.Lcm.{lcm_from_gcd}
use Rattle.lq_base_numbers.specs.Rationals.Rational.{ratio, ◌+ℚ◌, ◌-ℚ◌}
use Rattle.lq_base_numbers.specs.Rationals.Reduction.{quotient_some}
use Rattle.lq_base_numbers.specs.Fractions.Over.{IsOver}

-- a number that went to bits and was read again
abbrev pub read : ℤ → ℤ
read z = to_z w128 (of_z w128 z)

pub IfNone-any : {T : Type 0} (r : Option T) (P : Type 0) → P → IfNone r P
IfNone-any None P h = h
IfNone-any (Some x) P h = tt

-- ---- over the least common multiple
pub over : (a c : ℤ) (b d g x y : ℕ) (n k : ℤ) (m : ℕ) → FitsSigned w128 a → FitsSigned w128 c → 0 < b → 0 < d → IsGcd b d g
    → x ≡ d / g → y ≡ b / g → (y * d < 2 ^ 127) × (m ≡ y * d)
    → FitsSigned w128 (read a *ℤ pos x) × (n ≡ read a *ℤ pos x)
    → FitsSigned w128 (read c *ℤ pos y) × (k ≡ read c *ℤ pos y) → IsOver a c b d (read n) (read k) m
over a c b d g x y n k m fa fc p q gcd is_x is_y is_m is_n is_k =
    let l = lcm_from_gcd b d g p q gcd in
    let first : read a *ℤ pos x ≡ a *ℤ pos (b / g * d / b) = ap₂ (λ z w. z *ℤ pos w) (to_z-of_z w128 a fa) (is_x ∙ sym l.1) in
    let second : read c *ℤ pos y ≡ c *ℤ pos (b / g * d / d) = ap₂ (λ z w. z *ℤ pos w) (to_z-of_z w128 c fc) (is_y ∙ sym l.2) in
    let multiple : m ≡ b / g * d = is_m.1 ∙ ap (λ w. w * d) is_y in
    subst (λ z. IsOver a c b d (read n) (read k) z) (sym multiple) (record {
      positive = mul-pos (quotient_some b g p gcd.0) q;
      least = l.0;
      small = subst (λ w. w * d < 2 ^ 127) is_y is_m.0;
      first = to_z-of_z w128 n (subst (λ z. FitsSigned w128 z) (sym is_n.1) is_n.0) ∙ is_n.1 ∙ first;
      second = to_z-of_z w128 k (subst (λ z. FitsSigned w128 z) (sym is_k.1) is_k.0) ∙ is_k.1 ∙ second;
      first_fits = subst (λ z. FitsSigned w128 z) first is_n.0;
      second_fits = subst (λ z. FitsSigned w128 z) second is_k.0;
    })

-- one of the three numbers doesn't fit
pub not_over : (a c : ℤ) (b d g x y : ℕ) → 0 < b → 0 < d → IsGcd b d g → x ≡ d / g → y ≡ b / g
    → ¬ ((y * d < 2 ^ 127) × FitsSigned w128 (a *ℤ pos x) × FitsSigned w128 (c *ℤ pos y))
    → (op : ℤ → ℤ → ℤ) → HasNoFormBy op a c b d
not_over a c b d g x y p q gcd is_x is_y past op =
    let l = lcm_from_gcd b d g p q gcd in
    HasNoFormBy-from op a c b d (b / g * d) l.0 (λ f. past (
      subst (λ w. w * d < 2 ^ 127) (sym is_y) f.multiple,
      subst (λ w. FitsSigned w128 (a *ℤ pos w)) (l.1 ∙ sym is_x) f.first,
      subst (λ w. FitsSigned w128 (c *ℤ pos w)) (l.2 ∙ sym is_y) f.second,
    ))

pub fits_read : (a : ℤ) (m : ℕ) → FitsSigned w128 a → FitsSigned w128 (a *ℤ pos m) → FitsSigned w128 (read a *ℤ pos m)
fits_read a m f = subst (λ x. FitsSigned w128 (x *ℤ pos m)) (sym (to_z-of_z w128 a f))

-- ---- what `op` makes of the two numerators
pub both_read : (op : ℤ → ℤ → ℤ) (a c : ℤ) (b d : ℕ) (n k : ℤ) (m : ℕ) → IsOver a c b d n k m → op (read n) (read k) ≡ op (a *ℤ pos (m / b)) (c *ℤ pos (m / d))
both_read op a c b d n k m o =
    ap₂ op (ap read o.first ∙ to_z-of_z w128 (a *ℤ pos (m / b)) o.first_fits) (ap read o.second ∙ to_z-of_z w128 (c *ℤ pos (m / d)) o.second_fits)

pub has_form : (op : ℤ → ℤ → ℤ) (a c : ℤ) (b d : ℕ) (n k : ℤ) (m : ℕ) → IsOver a c b d n k m → FitsSigned w128 (op (read n) (read k)) → HasFormBy op a c b d
has_form op a c b d n k m o f =
    HasFormBy-from op a c b d m o.least (record {
      multiple = o.small;
      first = o.first_fits;
      second = o.second_fits;
      total = subst (λ x. FitsSigned w128 x) (both_read op a c b d n k m o) f;
    })

pub has_no_form : (op : ℤ → ℤ → ℤ) (a c : ℤ) (b d : ℕ) (n k : ℤ) (m : ℕ) → IsOver a c b d n k m → ¬ (FitsSigned w128 (op (read n) (read k))) → HasNoFormBy op a c b d
has_no_form op a c b d n k m o past =
    HasNoFormBy-from op a c b d m o.least (λ f. past (subst (λ x. FitsSigned w128 x) (sym (both_read op a c b d n k m o)) f.total))

total_is : (op : ℤ → ℤ → ℤ) (a c : ℤ) (b d : ℕ) (n k s : ℤ) (m : ℕ) → IsOver a c b d n k m
    → FitsSigned w128 (op (read n) (read k)) × (s ≡ op (read n) (read k)) → ratio (read s) m ≡ ratio (op (a *ℤ pos (m / b)) (c *ℤ pos (m / d))) m
total_is op a c b d n k s m o h =
    ap (λ x. ratio x m) (to_z-of_z w128 s (subst (λ x. FitsSigned w128 x) (sym h.1) h.0) ∙ h.1 ∙ both_read op a c b d n k m o)

pub sum_value : (a c : ℤ) (b d : ℕ) (n k s : ℤ) (m : ℕ) → 0 < b → 0 < d → IsOver a c b d n k m
    → FitsSigned w128 (read n +ℤ read k) × (s ≡ read n +ℤ read k) → ratio (read s) m ≡ ratio a b +ℚ ratio c d
sum_value a c b d n k s m p q o h = total_is (λ x y. x +ℤ y) a c b d n k s m o h ∙ sum_over a c b d m p q o.positive o.least

pub difference_value : (a c : ℤ) (b d : ℕ) (n k s : ℤ) (m : ℕ) → 0 < b → 0 < d → IsOver a c b d n k m
    → FitsSigned w128 (read n -ℤ read k) × (s ≡ read n -ℤ read k) → ratio (read s) m ≡ ratio a b -ℚ ratio c d
difference_value a c b d n k s m p q o h = total_is (λ x y. x -ℤ y) a c b d n k s m o h ∙ difference_over a c b d m p q o.positive o.least
