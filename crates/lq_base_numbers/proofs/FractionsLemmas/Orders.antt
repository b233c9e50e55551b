-- Fractions compare as their cross products do.
use Rattle.std.proofs.Common.{◌≡◌, ℕ, ◌<◌, arith, ap, sym, refl, subst, Ordering, Less, Equal, Greater, FitsSigned, to_z, of_z, IsTrue, nat_eq, ◌↔◌, eqb-true}
use Rattle.std.proofs.Math.IntN.{ℤ, pos, negsuc, ◌*ℤ◌}
use Rattle.std.specs.Int.Signed.{◌<ℤ◌}
use Rattle.std.specs.Int.{w128}
use Rattle.std.specs.Ordering.{MatchOrdering}
use Rattle.std.proofs.lemmas.Int.{ints, to_z-of_z}
use Rattle.lq_base_numbers.specs.Rationals.Rational.{ratio, whole}
use Rattle.lq_base_numbers.specs.Rationals.OrderLaws.{<ℚ_apart}
use Rattle.lq_base_numbers.specs.declared.fractions.frac.Frac.{Frac}
use Rattle.lq_base_numbers.specs.Fractions.Value.{value_of, fraction_once}
use Rattle.lq_base_numbers.specs.Rationals.RationalOrder.{◌<ℚ◌, cross_from_at_most, ratio_from_cross, cross_from_ratio}

below : (n m : ℤ) (d e : ℕ) → 0 < d → 0 < e → (n *ℤ pos e) <ℤ (m *ℤ pos d) → ratio n d <ℚ ratio m e
below n m d e p q h k = let up = cross_from_at_most m n e d q p k in absurd (omega (arith, ints))

pub ordered : (r : Ordering) (n m : ℤ) (d e : ℕ) → 0 < d → 0 < e
    → MatchOrdering r ((n *ℤ pos e) <ℤ (m *ℤ pos d)) (n *ℤ pos e ≡ m *ℤ pos d) ((m *ℤ pos d) <ℤ (n *ℤ pos e))
    → MatchOrdering r (ratio n d <ℚ ratio m e) (ratio n d ≡ ratio m e) (ratio m e <ℚ ratio n d)
ordered Less n m d e p q h = below n m d e p q h
ordered Equal n m d e p q h = ratio_from_cross n m d e p q h
ordered Greater n m d e p q h = below m n e d q p h

pub ordered_raw : (r : Ordering) (n m : ℤ) (d e : ℕ) → FitsSigned w128 n → FitsSigned w128 m → 0 < d → 0 < e
    → MatchOrdering r ((to_z w128 (of_z w128 n) *ℤ pos e) <ℤ (to_z w128 (of_z w128 m) *ℤ pos d)) (to_z w128 (of_z w128 n) *ℤ pos e ≡ to_z w128 (of_z w128 m) *ℤ pos d) ((to_z w128 (of_z w128 m) *ℤ pos d) <ℤ (to_z w128 (of_z w128 n) *ℤ pos e))
    → MatchOrdering r (ratio n d <ℚ ratio m e) (ratio n d ≡ ratio m e) (ratio m e <ℚ ratio n d)
ordered_raw r n m d e f g p q h =
    ordered r n m d e p q
    (subst (λ x. MatchOrdering r ((x *ℤ pos e) <ℤ (m *ℤ pos d)) (x *ℤ pos e ≡ m *ℤ pos d) ((m *ℤ pos d) <ℤ (x *ℤ pos e))) (to_z-of_z w128 n f)
    (subst (λ x. MatchOrdering r ((to_z w128 (of_z w128 n) *ℤ pos e) <ℤ (x *ℤ pos d)) (to_z w128 (of_z w128 n) *ℤ pos e ≡ x *ℤ pos d) ((x *ℤ pos d) <ℤ (to_z w128 (of_z w128 n) *ℤ pos e))) (to_z-of_z w128 m g) h))

-- ---- zero
zero_bits : (n : ℤ) → FitsSigned w128 n → IsTrue (nat_eq (of_z w128 n) 0) → n ≡ pos 0
zero_bits (pos k) f h = ap pos (eqb-true k 0 h)
zero_bits (negsuc k) f h = absurd (let e = eqb-true _ 0 h in omega (arith, f.sfits))

pub zero_test : (n : ℤ) (d : ℕ) → FitsSigned w128 n → 0 < d → IsTrue (nat_eq (of_z w128 n) 0) ↔ (ratio n d ≡ whole (pos 0))
zero_test n d f p = (
  λ h. ratio_from_cross n (pos 0) d 1 p (omega arith) (let e = zero_bits n f h in omega (arith, ints, ap (λ x. x *ℤ pos 1) e)),
  λ e. let c = cross_from_ratio n (pos 0) d 1 p (omega arith) e in
      let z : n ≡ pos 0 = omega (arith, ints) in
      subst (λ x. IsTrue (nat_eq (of_z w128 x) 0)) (sym z) refl,
)

-- ---- equal values are one fraction
pub same_fraction : (r : Ordering) (f g : Frac)
    → MatchOrdering r (value_of f <ℚ value_of g) (value_of f ≡ value_of g) (value_of g <ℚ value_of f) → (r ≡ Equal) ↔ (f ≡ g)
same_fraction Less f g h = (λ e. absurd (apart e), λ e. absurd (<ℚ_apart (value_of f) (value_of g) h (ap value_of e)))
  where
    apart : Less ≡ Equal → ⊥
    apart e = cc
same_fraction Equal f g h = (λ e. fraction_once f g h, λ e. refl)
same_fraction Greater f g h = (λ e. absurd (apart e), λ e. absurd (<ℚ_apart (value_of g) (value_of f) h (ap value_of (sym e))))
  where
    apart : Greater ≡ Equal → ⊥
    apart e = cc
