-- The laws of the order of the rationals. An inequality between two polynomials follows by `at_most_by` or `below_by` from the sign of
-- their difference: name the variables by a list, the two sides and the difference as terms of `Solver`, and `refl`.
-- Example: `square_above_line`.
use Rattle.std.proofs.Common.{◌≡◌, ◌⊎◌, inl, inr, refl, sym, ap, ◌∙◌, subst, [], ◌∷◌, List, Bool, true, false, IsTrue, ◌↔◌, arith}
use Rattle.std.proofs.Math.IntN.{pos}
use Rattle.std.proofs.lemmas.Int.{ints}
use Rattle.lq_base_numbers.specs.Rationals.Rational.{ℚ, whole, ◌+ℚ◌, ◌-ℚ◌, ◌*ℚ◌, neg_ℚ}
use Rattle.lq_base_numbers.specs.Rationals.RationalOrder.{◌≤ℚ◌, ◌<ℚ◌, NotNegative, at_least_zero, ≤ℚ_refl, other_sign, zero_from_signs, T_prop, NotNegative-sum, NotNegative-product}
use Rattle.lq_base_numbers.specs.Rationals.RationalQuotient.{inverse, *ℚ_inverse, *ℚ_apart}
use Rattle.lq_base_numbers.specs.Rationals.Solver.{Term, var, con, ◌⊕◌, ◌⊖◌, ◌⊗◌, value, normal, solve}
use Rattle.lq_base_numbers.specs.Rationals.Whole.{whole_below}

-- ---- from a difference
pub at_most_from_difference : (x y d : ℚ) → y -ℚ x ≡ d → NotNegative d → x ≤ℚ y
at_most_from_difference x y d e h = record { at_most = subst NotNegative (sym e) h }

pub at_most_by : (xs : List ℚ) (s t d : Term) → normal (t ⊖ s) ≡ normal d → NotNegative (value xs d) → value xs s ≤ℚ value xs t
at_most_by xs s t d e = at_most_from_difference (value xs s) (value xs t) (value xs d) (solve xs (t ⊖ s) d e)

-- ---- signs
pub NotNegative_of : (x : ℚ) → whole (pos 0) ≤ℚ x → NotNegative x
NotNegative_of x h = subst NotNegative (solve (x ∷ []) (var 0 ⊖ con (pos 0)) (var 0) refl) h.at_most

pub of_NotNegative : (x : ℚ) → NotNegative x → whole (pos 0) ≤ℚ x
of_NotNegative x = at_most_by (x ∷ []) (con (pos 0)) (var 0) (var 0) refl

-- ---- a total order
pub ≤ℚ_trans : (x y z : ℚ) → x ≤ℚ y → y ≤ℚ z → x ≤ℚ z
≤ℚ_trans x y z p q =
    at_most_by (x ∷ y ∷ z ∷ []) (var 0) (var 2) ((var 1 ⊖ var 0) ⊕ (var 2 ⊖ var 1)) refl
    (NotNegative-sum (y -ℚ x) (z -ℚ y) p.at_most q.at_most)

pub ≤ℚ_antisym : (x y : ℚ) → x ≤ℚ y → y ≤ℚ x → x ≡ y
≤ℚ_antisym x y p q =
    let back : x -ℚ y ≡ neg_ℚ (y -ℚ x) = solve (x ∷ y ∷ []) (var 0 ⊖ var 1) (con (pos 0) ⊖ (var 1 ⊖ var 0)) refl in
    let zero : y -ℚ x ≡ whole (pos 0) = zero_from_signs (y -ℚ x) p.at_most (subst NotNegative back q.at_most) in
    solve (x ∷ []) (var 0) (con (pos 0) ⊕ var 0) refl ∙ ap (λ t. t +ℚ x) (sym zero) ∙ solve (x ∷ y ∷ []) (var 1 ⊖ var 0 ⊕ var 0) (var 1) refl

pub ≤ℚ_from_same : (x y : ℚ) → x ≡ y → x ≤ℚ y
≤ℚ_from_same x y e = subst (λ t. x ≤ℚ t) e (≤ℚ_refl x)

-- one of the two, as `≤ℚ` can be tested
pub ≤ℚ_or_below : (x y : ℚ) → (x ≤ℚ y) ⊎ (y <ℚ x)
≤ℚ_or_below x y = by (at_least_zero (y -ℚ x)) refl
  where
    by : (b : Bool) → at_least_zero (y -ℚ x) ≡ b → (x ≤ℚ y) ⊎ (y <ℚ x)
    by true e = inl (record { at_most = e })
    by false e = inr (λ h. apart (sym e ∙ h.at_most))
      where
        apart : false ≡ true → ⊥
        apart h = cc

pub ≤ℚ_total : (x y : ℚ) → (x ≤ℚ y) ⊎ (y ≤ℚ x)
≤ℚ_total x y = by (at_least_zero (y -ℚ x)) refl
  where
    by : (b : Bool) → at_least_zero (y -ℚ x) ≡ b → (x ≤ℚ y) ⊎ (y ≤ℚ x)
    by true e = inl (record { at_most = e })
    by false e = inr (at_most_by (x ∷ y ∷ []) (var 1) (var 0) (con (pos 0) ⊖ (var 1 ⊖ var 0)) refl (other_sign (y -ℚ x) e))

pub ≤ℚ_from_below : (x y : ℚ) → x <ℚ y → x ≤ℚ y
≤ℚ_from_below x y h = elim (≤ℚ_total x y) [ inl p ↦ p | inr q ↦ absurd (h q) ]

pub ≤ℚ_from_not_below : (x y : ℚ) → ¬ (y <ℚ x) → x ≤ℚ y
≤ℚ_from_not_below x y h = elim (≤ℚ_or_below x y) [ inl p ↦ p | inr q ↦ absurd (h q) ]

pub <ℚ_irrefl : (x : ℚ) → ¬ (x <ℚ x)
<ℚ_irrefl x h = h (≤ℚ_refl x)

pub <ℚ_apart : (x y : ℚ) → x <ℚ y → ¬ (x ≡ y)
<ℚ_apart x y h e = h (≤ℚ_from_same y x (sym e))

pub <ℚ-≤ℚ_trans : (x y z : ℚ) → x <ℚ y → y ≤ℚ z → x <ℚ z
<ℚ-≤ℚ_trans x y z h k l = h (≤ℚ_trans y z x k l)

pub ≤ℚ-<ℚ_trans : (x y z : ℚ) → x ≤ℚ y → y <ℚ z → x <ℚ z
≤ℚ-<ℚ_trans x y z h k l = k (≤ℚ_trans z x y l h)

pub <ℚ_trans : (x y z : ℚ) → x <ℚ y → y <ℚ z → x <ℚ z
<ℚ_trans x y z h k = <ℚ-≤ℚ_trans x y z h (≤ℚ_from_below y z k)

pub <ℚ_from_apart : (x y : ℚ) → x ≤ℚ y → ¬ (x ≡ y) → x <ℚ y
<ℚ_from_apart x y h apart k = apart (≤ℚ_antisym x y h k)

pub trichotomy : (x y : ℚ) → (x <ℚ y) ⊎ (x ≡ y) ⊎ (y <ℚ x)
trichotomy x y =
    elim (≤ℚ_or_below x y) [
      | inr above ↦ inr (inr above)
      | inl h ↦ elim (≤ℚ_or_below y x) [ inl k ↦ inr (inl (≤ℚ_antisym x y h k)) | inr below ↦ inl below ]
    ]

pub same_or_apart : (x y : ℚ) → (x ≡ y) ⊎ ¬ (x ≡ y)
same_or_apart x y =
    elim (trichotomy x y) [
      | inl below ↦ inr (<ℚ_apart x y below)
      | inr (inl same) ↦ inl same
      | inr (inr above) ↦ inr (λ e. <ℚ_apart y x above (sym e))
    ]

-- the order as a test, and as a fact with one proof
abbrev pub is_at_most : ℚ → ℚ → Bool
is_at_most x y = at_least_zero (y -ℚ x)

pub is_at_most_lem : (x y : ℚ) → IsTrue (is_at_most x y) ↔ (x ≤ℚ y)
is_at_most_lem x y = (λ h. record { at_most = h }, λ h. h.at_most)

pub ≤ℚ-prop : (x y : ℚ) → IsProp (x ≤ℚ y)
≤ℚ-prop x y = hlevel (T_prop)

-- ---- sums
pub ≤ℚ_sum : (x y z w : ℚ) → x ≤ℚ y → z ≤ℚ w → (x +ℚ z) ≤ℚ (y +ℚ w)
≤ℚ_sum x y z w p q =
    at_most_by (x ∷ y ∷ z ∷ w ∷ []) (var 0 ⊕ var 2) (var 1 ⊕ var 3) ((var 1 ⊖ var 0) ⊕ (var 3 ⊖ var 2)) refl
    (NotNegative-sum (y -ℚ x) (w -ℚ z) p.at_most q.at_most)

-- what is added to both sides can be taken away
pub ≤ℚ_cancel : (x y z : ℚ) → (x +ℚ z) ≤ℚ (y +ℚ z) → x ≤ℚ y
≤ℚ_cancel x y z h = at_most_by (x ∷ y ∷ z ∷ []) (var 0) (var 1) (var 1 ⊕ var 2 ⊖ (var 0 ⊕ var 2)) refl h.at_most

pub <ℚ_sum : (x y z w : ℚ) → x <ℚ y → z ≤ℚ w → (x +ℚ z) <ℚ (y +ℚ w)
<ℚ_sum x y z w p q h =
    p (at_most_by (x ∷ y ∷ z ∷ w ∷ []) (var 1) (var 0) ((var 0 ⊕ var 2 ⊖ (var 1 ⊕ var 3)) ⊕ (var 3 ⊖ var 2)) refl
    (NotNegative-sum ((x +ℚ z) -ℚ (y +ℚ w)) (w -ℚ z) h.at_most q.at_most))

pub <ℚ_cancel : (x y z : ℚ) → (x +ℚ z) <ℚ (y +ℚ z) → x <ℚ y
<ℚ_cancel x y z h k = h (≤ℚ_sum y x z z k (≤ℚ_refl z))

pub below_from_difference : (x y : ℚ) → whole (pos 0) <ℚ (y -ℚ x) → x <ℚ y
below_from_difference x y h k =
    h (at_most_by (x ∷ y ∷ []) (var 1 ⊖ var 0) (con (pos 0)) (var 0 ⊖ var 1) refl k.at_most)

pub difference_above_zero : (x y : ℚ) → x <ℚ y → whole (pos 0) <ℚ (y -ℚ x)
difference_above_zero x y h k =
    h (at_most_by (x ∷ y ∷ []) (var 1) (var 0) (con (pos 0) ⊖ (var 1 ⊖ var 0)) refl k.at_most)

pub below_by : (xs : List ℚ) (s t d : Term) → normal (t ⊖ s) ≡ normal d → whole (pos 0) <ℚ value xs d → value xs s <ℚ value xs t
below_by xs s t d e h = below_from_difference (value xs s) (value xs t) (subst (λ x. whole (pos 0) <ℚ x) (sym (solve xs (t ⊖ s) d e)) h)

-- ---- negation turns it round
pub ≤ℚ_negation : (x y : ℚ) → x ≤ℚ y → neg_ℚ y ≤ℚ neg_ℚ x
≤ℚ_negation x y h = at_most_by (x ∷ y ∷ []) (con (pos 0) ⊖ var 1) (con (pos 0) ⊖ var 0) (var 1 ⊖ var 0) refl h.at_most

pub <ℚ_negation : (x y : ℚ) → x <ℚ y → neg_ℚ y <ℚ neg_ℚ x
<ℚ_negation x y h k = h (at_most_by (x ∷ y ∷ []) (var 1) (var 0) (con (pos 0) ⊖ var 1 ⊖ (con (pos 0) ⊖ var 0)) refl k.at_most)

-- ---- products
pub ≤ℚ_product : (m x y : ℚ) → NotNegative m → x ≤ℚ y → (m *ℚ x) ≤ℚ (m *ℚ y)
≤ℚ_product m x y h k =
    at_most_by (m ∷ x ∷ y ∷ []) (var 0 ⊗ var 1) (var 0 ⊗ var 2) (var 0 ⊗ (var 2 ⊖ var 1)) refl (NotNegative-product m (y -ℚ x) h k.at_most)

pub ≤ℚ_product_turned : (m x y : ℚ) → NotNegative (neg_ℚ m) → x ≤ℚ y → (m *ℚ y) ≤ℚ (m *ℚ x)
≤ℚ_product_turned m x y h k =
    at_most_by (m ∷ x ∷ y ∷ []) (var 0 ⊗ var 2) (var 0 ⊗ var 1) ((con (pos 0) ⊖ var 0) ⊗ (var 2 ⊖ var 1)) refl
    (NotNegative-product (neg_ℚ m) (y -ℚ x) h k.at_most)

pub NotNegative_from_above : (x : ℚ) → whole (pos 0) <ℚ x → NotNegative x
NotNegative_from_above x h = NotNegative_of x (≤ℚ_from_below (whole (pos 0)) x h)

pub sum_above_zero : (x y : ℚ) → whole (pos 0) <ℚ x → NotNegative y → whole (pos 0) <ℚ (x +ℚ y)
sum_above_zero x y h k =
    subst (λ t. t <ℚ (x +ℚ y)) (solve [] (con (pos 0) ⊕ con (pos 0)) (con (pos 0)) refl)
    (<ℚ_sum (whole (pos 0)) x (whole (pos 0)) y h (of_NotNegative y k))

pub product_above_zero : (x y : ℚ) → whole (pos 0) <ℚ x → whole (pos 0) <ℚ y → whole (pos 0) <ℚ (x *ℚ y)
product_above_zero x y h k =
    <ℚ_from_apart (whole (pos 0)) (x *ℚ y)
    (of_NotNegative (x *ℚ y) (NotNegative-product x y (NotNegative_from_above x h) (NotNegative_from_above y k)))
    (λ e. *ℚ_apart x y (λ f. <ℚ_apart (whole (pos 0)) x h (sym f)) (λ f. <ℚ_apart (whole (pos 0)) y k (sym f)) (sym e))

pub <ℚ_product : (m x y : ℚ) → whole (pos 0) <ℚ m → x <ℚ y → (m *ℚ x) <ℚ (m *ℚ y)
<ℚ_product m x y h k =
    below_by (m ∷ x ∷ y ∷ []) (var 0 ⊗ var 1) (var 0 ⊗ var 2) (var 0 ⊗ (var 2 ⊖ var 1)) refl
    (product_above_zero m (y -ℚ x) h (difference_above_zero x y k))

-- a positive factor can be taken away
pub ≤ℚ_uncross : (m x y : ℚ) → whole (pos 0) <ℚ m → (m *ℚ x) ≤ℚ (m *ℚ y) → x ≤ℚ y
≤ℚ_uncross m x y h k = ≤ℚ_from_not_below x y (λ l. <ℚ_product m y x h l k)

pub <ℚ_uncross : (m x y : ℚ) → whole (pos 0) <ℚ m → (m *ℚ x) <ℚ (m *ℚ y) → x <ℚ y
<ℚ_uncross m x y h k l = k (≤ℚ_product m y x (NotNegative_from_above m h) l)

-- ---- quotients
pub inverse_above_zero : (x : ℚ) → whole (pos 0) <ℚ x → whole (pos 0) <ℚ inverse x
inverse_above_zero x h =
    <ℚ_uncross x (whole (pos 0)) (inverse x) h
    (subst (λ t. (x *ℚ whole (pos 0)) <ℚ t) (sym (*ℚ_inverse x (λ e. <ℚ_apart (whole (pos 0)) x h (sym e))))
    (subst (λ t. t <ℚ whole (pos 1)) (sym (solve (x ∷ []) (var 0 ⊗ con (pos 0)) (con (pos 0)) refl))
    (whole_below (pos 0) (pos 1) (omega (arith, ints)))))

-- ---- squares, and an example of use: 2 x - 1 is at most x * x
pub NotNegative-square : (x : ℚ) → NotNegative (x *ℚ x)
NotNegative-square x =
    elim (≤ℚ_total (whole (pos 0)) x) [
      | inl h ↦ NotNegative-product x x (NotNegative_of x h) (NotNegative_of x h)
      | inr h ↦ subst NotNegative (solve (x ∷ []) ((con (pos 0) ⊖ var 0) ⊗ (con (pos 0) ⊖ var 0)) (var 0 ⊗ var 0) refl)
          (NotNegative-product (neg_ℚ x) (neg_ℚ x) h.at_most h.at_most)
    ]

square_above_line : (x : ℚ) → (whole (pos 2) *ℚ x -ℚ whole (pos 1)) ≤ℚ (x *ℚ x)
square_above_line x =
    at_most_by (x ∷ []) (con (pos 2) ⊗ var 0 ⊖ con (pos 1)) (var 0 ⊗ var 0) ((var 0 ⊖ con (pos 1)) ⊗ (var 0 ⊖ con (pos 1))) refl
    (NotNegative-square (x -ℚ whole (pos 1)))
