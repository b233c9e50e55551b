-- The laws that make ℚ the rationals: an ordered field, in which the whole numbers lie and of which each number is a quotient of two.
-- They say in one place what the definitions of `Rational`, `RationalQuotient` and `RationalOrder` amount to.
use Rattle.std.proofs.Common.{◌≡◌, ◌⊎◌, ℕ, ◌<◌, ◌*◌, ◌↔◌, [], ◌∷◌, ◌∙◌, arith, refl, sym, subst}
use Rattle.std.proofs.Math.IntN.{ℤ, pos, ◌+ℤ◌, ◌*ℤ◌}
use Rattle.std.specs.Int.Signed.{◌≤ℤ◌}
use Rattle.std.proofs.lemmas.Int.{ints}
use Rattle.lq_base_numbers.specs.Rationals.LowestTerms.{IsLowest, lowest_terms, lowest_terms_once}
use Rattle.lq_base_numbers.specs.Rationals.OrderLaws.{≤ℚ_antisym, ≤ℚ_trans, ≤ℚ_total, ≤ℚ_sum, NotNegative_of, of_NotNegative}
use Rattle.lq_base_numbers.specs.Rationals.Rational.{ℚ, ratio, whole, ◌+ℚ◌, ◌-ℚ◌, ◌*ℚ◌, neg_ℚ}
use Rattle.lq_base_numbers.specs.Rationals.RationalOrder.{◌≤ℚ◌, ≤ℚ_refl, NotNegative-product, ratio_from_cross}
use Rattle.lq_base_numbers.specs.Rationals.RationalQuotient.{◌/ℚ◌, /ℚ_is}
use Rattle.lq_base_numbers.specs.Rationals.RationalRing.{+ℚ_comm, +ℚ_assoc, +ℚ_zero, *ℚ_comm, *ℚ_assoc, *ℚ_one, *ℚ-+ℚ}
use Rattle.lq_base_numbers.specs.Rationals.Ratios.{ratio-product}
use Rattle.lq_base_numbers.specs.Rationals.Solver.{var, con, ◌⊕◌, ◌⊖◌, solve}
use Rattle.lq_base_numbers.specs.Rationals.Whole.{whole_once, whole-sum, whole-product, whole_at_most, at_most_of_whole}

pub record IsOrderedField : Type 0 where
  pub sum_commutes : (x y : ℚ) → x +ℚ y ≡ y +ℚ x
  pub sum_associates : (x y z : ℚ) → (x +ℚ y) +ℚ z ≡ x +ℚ (y +ℚ z)
  pub zero : (x : ℚ) → x +ℚ whole (pos 0) ≡ x
  pub negation : (x : ℚ) → x +ℚ neg_ℚ x ≡ whole (pos 0)
  pub difference : (x y : ℚ) → x -ℚ y ≡ x +ℚ neg_ℚ y
  pub product_commutes : (x y : ℚ) → x *ℚ y ≡ y *ℚ x
  pub product_associates : (x y z : ℚ) → (x *ℚ y) *ℚ z ≡ x *ℚ (y *ℚ z)
  pub one : (x : ℚ) → x *ℚ whole (pos 1) ≡ x
  pub distributes : (x y z : ℚ) → x *ℚ (y +ℚ z) ≡ x *ℚ y +ℚ x *ℚ z
  pub quotient : (x y : ℚ) → ¬ (y ≡ whole (pos 0)) → (x /ℚ y) *ℚ y ≡ x
  pub reflexive : (x : ℚ) → x ≤ℚ x
  pub antisymmetric : (x y : ℚ) → x ≤ℚ y → y ≤ℚ x → x ≡ y
  pub transitive : (x y z : ℚ) → x ≤ℚ y → y ≤ℚ z → x ≤ℚ z
  pub total : (x y : ℚ) → (x ≤ℚ y) ⊎ (y ≤ℚ x)
  pub sums_keep_order : (x y z : ℚ) → x ≤ℚ y → (x +ℚ z) ≤ℚ (y +ℚ z)
  pub products_keep_sign : (x y : ℚ) → whole (pos 0) ≤ℚ x → whole (pos 0) ≤ℚ y → whole (pos 0) ≤ℚ (x *ℚ y)

pub record HoldsWholeNumbers : Type 0 where
  pub apart : (a b : ℤ) → whole a ≡ whole b → a ≡ b
  pub sums : (a b : ℤ) → whole a +ℚ whole b ≡ whole (a +ℤ b)
  pub products : (a b : ℤ) → whole a *ℚ whole b ≡ whole (a *ℤ b)
  pub order : (a b : ℤ) → (a ≤ℤ b) ↔ (whole a ≤ℚ whole b)

pub record IsMadeOfFractions : Type 0 where
  pub fraction : (n : ℤ) (d : ℕ) → 0 < d → ratio n d *ℚ whole (pos d) ≡ whole n
  pub lowest : (x : ℚ) → (p : ℤ × ℕ) × IsLowest x p.0 p.1
  pub once : (x : ℚ) (n m : ℤ) (d e : ℕ) → IsLowest x n d → IsLowest x m e → (n ≡ m) × (d ≡ e)

pub ordered_field : IsOrderedField
ordered_field = record {
  sum_commutes = +ℚ_comm;
  sum_associates = +ℚ_assoc;
  zero = +ℚ_zero;
  negation = λ x. solve (x ∷ []) (var 0 ⊕ (con (pos 0) ⊖ var 0)) (con (pos 0)) refl;
  difference = λ x y. solve (x ∷ y ∷ []) (var 0 ⊖ var 1) (var 0 ⊕ (con (pos 0) ⊖ var 1)) refl;
  product_commutes = *ℚ_comm;
  product_associates = *ℚ_assoc;
  one = *ℚ_one;
  distributes = *ℚ-+ℚ;
  quotient = /ℚ_is;
  reflexive = ≤ℚ_refl;
  antisymmetric = ≤ℚ_antisym;
  transitive = ≤ℚ_trans;
  total = ≤ℚ_total;
  sums_keep_order = λ x y z h. ≤ℚ_sum x y z z h (≤ℚ_refl z);
  products_keep_sign = λ x y h k. of_NotNegative (x *ℚ y) (NotNegative-product x y (NotNegative_of x h) (NotNegative_of y k));
}

pub holds_whole_numbers : HoldsWholeNumbers
holds_whole_numbers = record {
  apart = whole_once;
  sums = whole-sum;
  products = whole-product;
  order = λ a b. (whole_at_most a b, at_most_of_whole a b);
}

fraction_is : (n : ℤ) (d : ℕ) → 0 < d → ratio n d *ℚ whole (pos d) ≡ whole n
fraction_is n d p =
    ratio-product n (pos d) d 1 p (omega arith)
    ∙ ratio_from_cross (n *ℤ pos d) n (d * 1) 1 (omega arith) (omega arith) (cross (omega arith))
  where
    cross : d * 1 ≡ d → (n *ℤ pos d) *ℤ pos 1 ≡ n *ℤ pos (d * 1)
    cross e = subst (λ x. (n *ℤ pos d) *ℤ pos 1 ≡ n *ℤ pos x) (sym e) (omega (arith, ints))

pub made_of_fractions : IsMadeOfFractions
made_of_fractions = record { fraction = fraction_is; lowest = lowest_terms; once = lowest_terms_once }
