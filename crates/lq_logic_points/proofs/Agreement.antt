-- When two applications of a function of two numbers agree.
use Rattle.std.proofs.Common.{◌≡◌, ◌⊎◌, inl, inr, pos, negsuc}
use Rattle.lq_base_numbers.specs.Rationals.Rational.{ℚ, whole, ◌-ℚ◌}
use Rattle.lq_base_numbers.specs.Rationals.RationalOrder.{◌≤ℚ◌}
use Rattle.lq_logic_predicates.specs.Sum.{Sum}
use Rattle.lq_logic_predicates.specs.Points.{Point, form_at}
use Rattle.lq_logic_predicates.specs.ClosedImplication.{AgreeOrApart}
use Rattle.lq_logic_points.proofs.Apart.{apart_from_difference, difference_from_apart, equal_from_difference, difference_from_equal}

abbrev pub IsApart : ℚ → Type 0
IsApart d = (d ≤ℚ whole (negsuc 0)) ⊎ (whole (pos 1) ≤ℚ d)

pub first_apart : (p : Point) (a b c d : Sum) (r s x : ℚ) → x ≡ form_at p a -ℚ form_at p c → IsApart x → AgreeOrApart p a b c d r s
first_apart p a b c d r s x e h = inr (inl (apart_from_difference (form_at p a) (form_at p c) x e h))

pub second_apart : (p : Point) (a b c d : Sum) (r s x : ℚ) → x ≡ form_at p b -ℚ form_at p d → IsApart x → AgreeOrApart p a b c d r s
second_apart p a b c d r s x e h = inr (inr (apart_from_difference (form_at p b) (form_at p d) x e h))

pub near : (p : Point) (a b c d : Sum) (r s x y : ℚ) → x ≡ form_at p a -ℚ form_at p c → y ≡ form_at p b -ℚ form_at p d → ¬ IsApart x → ¬ IsApart y
    → (x ≡ whole (pos 0) → y ≡ whole (pos 0) → r ≡ s → AgreeOrApart p a b c d r s) × (AgreeOrApart p a b c d r s → (x ≡ whole (pos 0)) × (y ≡ whole (pos 0)) × (r ≡ s))
near p a b c d r s x y e f h k =
    (λ z w q. inl (equal_from_difference (form_at p a) (form_at p c) x e z, equal_from_difference (form_at p b) (form_at p d) y f w, q), back)
  where
    back : AgreeOrApart p a b c d r s → (x ≡ whole (pos 0)) × (y ≡ whole (pos 0)) × (r ≡ s)
    back (inl m) = (difference_from_equal (form_at p a) (form_at p c) x e m.0, difference_from_equal (form_at p b) (form_at p d) y f m.1, m.2)
    back (inr (inl m)) = absurd (h (difference_from_apart (form_at p a) (form_at p c) x e m))
    back (inr (inr m)) = absurd (k (difference_from_apart (form_at p b) (form_at p d) y f m))
