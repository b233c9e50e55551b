-- The order of fractions, as a comparison answers it.
use Rattle.std.proofs.Common.{◌≡◌, ◌⊎◌, inl, inr, sym}
use Rattle.std.specs.Ordering.{MatchOrdering}
use Rattle.std.specs.declared.cmp.Ordering.{Ordering}
use Rattle.std.specs.declared.cmp.Ordering.TheVariants.{Less, Equal, Greater}
use Rattle.lq_base_numbers.specs.Rationals.Rational.{ℚ}
use Rattle.lq_base_numbers.specs.Rationals.RationalOrder.{◌≤ℚ◌, ◌<ℚ◌}
use Rattle.lq_base_numbers.specs.Rationals.OrderLaws.{≤ℚ_from_below, ≤ℚ_from_same, <ℚ_apart}

pub at_most_from : (o : Ordering) (x y : ℚ) → MatchOrdering o (x <ℚ y) (x ≡ y) (y <ℚ x) → (o ≡ Less) ⊎ (o ≡ Equal) → x ≤ℚ y
at_most_from Less x y m h = ≤ℚ_from_below x y m
at_most_from Equal x y m h = ≤ℚ_from_same x y m
at_most_from Greater x y m h = elim h [ inl e ↦ cc | inr e ↦ cc ]

pub apart_from : (o : Ordering) (x y : ℚ) → MatchOrdering o (x <ℚ y) (x ≡ y) (y <ℚ x) → (o ≡ Less) ⊎ (o ≡ Greater) → x ≡ y → ⊥
apart_from Less x y m h e = <ℚ_apart x y m e
apart_from Equal x y m h e = elim h [ inl k ↦ cc | inr k ↦ cc ]
apart_from Greater x y m h e = <ℚ_apart y x m (sym e)
