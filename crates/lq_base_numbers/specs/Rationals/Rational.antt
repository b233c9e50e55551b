-- The rationals, with sums, differences and products. Two pairs are one number where their cross products are one, so that `≡`
-- is equality of numbers. `ratio n d` is n / d for a positive d, and `whole n` is n. Example: `half` and `half_again`.
use Rattle.std.specs.Prelude.{◌≡◌, ℕ, ℤ, pos, ◌-◌, refl}
use std.Quotient
use std.Quotient.{cls, eq/, /_set, /_rec, /_rec₂}
use Rattle.lq_base_numbers.specs.Rationals.Pairs.{Pair, Same, pair_sum, pair_difference, pair_product}
use Rattle.lq_base_numbers.specs.Rationals.SamePairs.{Same-sum_l, Same-sum_r, Same-difference_l, Same-difference_r, Same-product_l, Same-product_r}

abbrev pub ℚ : Type 0
ℚ = std.Quotient.◌/◌ Pair Same

abbrev pub class : Pair → ℚ
class a = cls a

-- n / d, for a positive d
abbrev pub ratio : ℤ → ℕ → ℚ
ratio n d = class (n, d - 1)

abbrev pub whole : ℤ → ℚ
whole n = class (n, 0)

pub same_class : (a b : Pair) → Same a b → class a ≡ class b
same_class a b e = eq/ a b e

infixl 6 ◌+ℚ◌ ◌-ℚ◌
infixl 7 ◌*ℚ◌
pub ◌+ℚ◌ : ℚ → ℚ → ℚ
◌+ℚ◌ = /_rec₂ /_set (λ a b. class (pair_sum a b))
    (λ a a' b e. same_class (pair_sum a b) (pair_sum a' b) (Same-sum_l a a' b e))
    (λ a b b' e. same_class (pair_sum a b) (pair_sum a b') (Same-sum_r a b b' e))

pub ◌-ℚ◌ : ℚ → ℚ → ℚ
◌-ℚ◌ = /_rec₂ /_set (λ a b. class (pair_difference a b))
    (λ a a' b e. same_class (pair_difference a b) (pair_difference a' b) (Same-difference_l a a' b e))
    (λ a b b' e. same_class (pair_difference a b) (pair_difference a b') (Same-difference_r a b b' e))

pub ◌*ℚ◌ : ℚ → ℚ → ℚ
◌*ℚ◌ = /_rec₂ /_set (λ a b. class (pair_product a b))
    (λ a a' b e. same_class (pair_product a b) (pair_product a' b) (Same-product_l a a' b e))
    (λ a b b' e. same_class (pair_product a b) (pair_product a b') (Same-product_r a b b' e))

pub sum-class : (a b : Pair) → class a +ℚ class b ≡ class (pair_sum a b)
unfolding ◌+ℚ◌ /_rec₂ /_rec
sum-class a b = refl

pub difference-class : (a b : Pair) → class a -ℚ class b ≡ class (pair_difference a b)
unfolding ◌-ℚ◌ /_rec₂ /_rec
difference-class a b = refl

pub product-class : (a b : Pair) → class a *ℚ class b ≡ class (pair_product a b)
unfolding ◌*ℚ◌ /_rec₂ /_rec
product-class a b = refl

abbrev pub neg_ℚ : ℚ → ℚ
neg_ℚ x = whole (pos 0) -ℚ x

-- an example of use: 1 / 2 and 2 / 4 are one number
abbrev half : ℚ
half = ratio (pos 1) 2

half_again : half ≡ ratio (pos 2) 4
half_again = same_class (pos 1, 1) (pos 2, 3) refl
