-- A predicate that is true of whole numbers has a reading that holds at their point.
use Rattle.std.proofs.Common.{◌≡◌, ◌⊎◌, inl, inr, ℤ, pos, Bool, true, false, Option, Some, None, refl, sym, ap, ap₂, subst, ◌∙◌, arith}
use Rattle.std.proofs.Math.IntN.{◌+ℤ◌, ◌-ℤ◌, ◌*ℤ◌, *ℤ_comm}
use Rattle.std.specs.Int.Signed.{◌≤ℤ◌, lt_z}
use Rattle.std.specs.Ordering.{int_eq}
use Rattle.std.proofs.lemmas.Int.{ints}
use Rattle.std.proofs.lemmas.Bool.{and_parts, and_cases, or_cases, or_parts, not-true, not-false}
use Rattle.std.proofs.lemmas.Bool.Decides.{Decides-int_eq}
use Rattle.lq_base_numbers.specs.Rationals.Rational.{ℚ, whole as rational, ◌+ℚ◌, ◌-ℚ◌, ◌*ℚ◌}
use Rattle.lq_base_numbers.specs.Rationals.RationalOrder.{◌≤ℚ◌}
use Rattle.lq_base_numbers.specs.Rationals.Whole.{whole-sum, whole-difference, whole-product, whole_at_most}
use Rattle.lq_logic_predicates.specs.Sum.{Sum, whole, var, neg, add, sub, mul, div, rem, len, measure}
use Rattle.lq_logic_predicates.specs.Table.{literal_of}
use Rattle.lq_logic_predicates.specs.Comparison.{Comparison, comparison}
use Rattle.lq_logic_predicates.specs.Formula.{Formula, truth, falsity, flag, compare, objects, negation, conjunction, disjunction, equivalence}
use Rattle.lq_logic_predicates.specs.Reading.{comparison_reading, reading_of, apart}
use Rattle.lq_logic_predicates.specs.Truth.{Meaning, term_value, compares, truth_of, same_truth}
use Rattle.lq_logic_predicates.specs.Points.{form_at, scaled_value, difference_at, ComparisonHolds, Meets, point_of}
use Rattle.lq_base_names.specs.declared.operation.CompareOp.{CompareOp}
use Rattle.lq_base_names.specs.declared.operation.CompareOp.TheVariants as op
use Rattle.lq_logic_predicates.proofs.TermForms.{of_literal}

product_value : (m : Meaning) (a b : Sum) (x y : ℚ) → x ≡ rational (term_value m a) → y ≡ rational (term_value m b) → (o p : Option ℤ) → literal_of a ≡ o → literal_of b ≡ p
    → scaled_value o p x y (rational (term_value m (mul a b))) ≡ rational (term_value m a *ℤ term_value m b)
product_value m a b x y h k (Some n) p e f =
    ap (λ z. rational n *ℚ z) k ∙ whole-product n (term_value m b) ∙ ap (λ z. rational (z *ℤ term_value m b)) (sym (ap (term_value m) (of_literal a n e)))
product_value m a b x y h k None (Some n) e f =
    ap (λ z. rational n *ℚ z) h ∙ whole-product n (term_value m a) ∙ ap rational (*ℤ_comm n (term_value m a))
    ∙ ap (λ z. rational (term_value m a *ℤ z)) (sym (ap (term_value m) (of_literal b n f)))
product_value m a b x y h k None None e f = refl

pub form_value : (m : Meaning) (s : Sum) → form_at (point_of m) s ≡ rational (term_value m s)
form_value m (whole n) = refl
form_value m (var x) = refl
form_value m (neg a) = ap (λ x. rational (pos 0) -ℚ x) (form_value m a) ∙ whole-difference (pos 0) (term_value m a)
form_value m (add a b) = ap₂ (λ x y. x +ℚ y) (form_value m a) (form_value m b) ∙ whole-sum (term_value m a) (term_value m b)
form_value m (sub a b) = ap₂ (λ x y. x -ℚ y) (form_value m a) (form_value m b) ∙ whole-difference (term_value m a) (term_value m b)
form_value m (mul a b) =
    product_value m a b (form_at (point_of m) a) (form_at (point_of m) b) (form_value m a) (form_value m b) (literal_of a) (literal_of b) refl refl
form_value m (div a b) = refl
form_value m (rem a b) = refl
form_value m (len a) = refl
form_value m (measure f a) = refl

difference_value : (m : Meaning) (c : Comparison) → difference_at (point_of m) c ≡ rational (term_value m c.left -ℤ term_value m c.right +ℤ c.added)
difference_value m c =
    ap₂ (λ x y. x -ℚ y +ℚ rational c.added) (form_value m c.left) (form_value m c.right)
    ∙ ap (λ x. x +ℚ rational c.added) (whole-difference (term_value m c.left) (term_value m c.right))
    ∙ whole-sum (term_value m c.left -ℤ term_value m c.right) c.added

order_holds : (m : Meaning) (a b : Sum) (n : ℤ) → (term_value m a -ℤ term_value m b +ℤ n) ≤ℤ pos 0 → ComparisonHolds (point_of m) (comparison a b n false)
order_holds m a b n h = subst (λ x. x ≤ℚ rational (pos 0)) (sym (difference_value m (comparison a b n false))) (whole_at_most (term_value m a -ℤ term_value m b +ℤ n) (pos 0) h)

equal_holds : (m : Meaning) (a b : Sum) → term_value m a ≡ term_value m b → ComparisonHolds (point_of m) (comparison a b (pos 0) true)
equal_holds m a b h = difference_value m (comparison a b (pos 0) true) ∙ ap rational (omega (arith, ints, h))

from_below : (x y : ℤ) → lt_z x y ≡ true → (x -ℤ y +ℤ pos 1) ≤ℤ pos 0
from_below x y h = omega (arith, ints)

from_not_below : (x y : ℤ) → lt_z x y ≡ false → (y -ℤ x +ℤ pos 0) ≤ℤ pos 0
from_not_below x y h = omega (arith, ints)

pub one_below : (x y : ℤ) → int_eq x y ≡ false → (lt_z x y ≡ true) ⊎ (lt_z y x ≡ true)
one_below x y h = by (lt_z x y) (lt_z y x) refl refl
  where
    apart_from : int_eq x y ≡ false → x ≡ y → ⊥
    apart_from e w = let d = (Decides-int_eq x y).1 w in cc

    by : (b c : Bool) → lt_z x y ≡ b → lt_z y x ≡ c → (b ≡ true) ⊎ (c ≡ true)
    by true c p q = inl refl
    by false true p q = inr refl
    by false false p q = absurd (apart_from h (omega (arith, ints, p, q)))

apart_holds : (m : Meaning) (a b : Sum) → int_eq (term_value m a) (term_value m b) ≡ false → Meets (point_of m) (apart a b)
apart_holds m a b h = by (one_below (term_value m a) (term_value m b) h)
  where
    by : (lt_z (term_value m a) (term_value m b) ≡ true) ⊎ (lt_z (term_value m b) (term_value m a) ≡ true) → Meets (point_of m) (apart a b)
    by (inl p) = inl (order_holds m a b (pos 1) (from_below (term_value m a) (term_value m b) p))
    by (inr p) = inr (inl (order_holds m b a (pos 1) (from_below (term_value m b) (term_value m a) p)))

comparison_holds : (m : Meaning) (o : CompareOp) (a b : Sum) (sign : Bool) → compares o (term_value m a) (term_value m b) ≡ sign → Meets (point_of m) (comparison_reading sign o a b)
comparison_holds m op.Eq a b true h = equal_holds m a b ((Decides-int_eq (term_value m a) (term_value m b)).0 h)
comparison_holds m op.Eq a b false h = apart_holds m a b h
comparison_holds m op.Ne a b true h = apart_holds m a b (not-true (int_eq (term_value m a) (term_value m b)) h)
comparison_holds m op.Ne a b false h = equal_holds m a b ((Decides-int_eq (term_value m a) (term_value m b)).0 (not-false (int_eq (term_value m a) (term_value m b)) h))
comparison_holds m op.Lt a b true h = order_holds m a b (pos 1) (from_below (term_value m a) (term_value m b) h)
comparison_holds m op.Lt a b false h = order_holds m b a (pos 0) (from_not_below (term_value m a) (term_value m b) h)
comparison_holds m op.Le a b true h = order_holds m a b (pos 0) (from_not_below (term_value m b) (term_value m a) (not-true (lt_z (term_value m b) (term_value m a)) h))
comparison_holds m op.Le a b false h = order_holds m b a (pos 1) (from_below (term_value m b) (term_value m a) (not-false (lt_z (term_value m b) (term_value m a)) h))
comparison_holds m op.Gt a b true h = order_holds m b a (pos 1) (from_below (term_value m b) (term_value m a) h)
comparison_holds m op.Gt a b false h = order_holds m a b (pos 0) (from_not_below (term_value m b) (term_value m a) h)
comparison_holds m op.Ge a b true h = order_holds m b a (pos 0) (from_not_below (term_value m a) (term_value m b) (not-true (lt_z (term_value m a) (term_value m b)) h))
comparison_holds m op.Ge a b false h = order_holds m a b (pos 1) (from_below (term_value m a) (term_value m b) (not-false (lt_z (term_value m a) (term_value m b)) h))

-- of a predicate that is true or false of whole numbers, the reading with that sign holds at their point
pub reading_holds : (m : Meaning) (p : Formula) (sign : Bool) → truth_of m p ≡ sign → Meets (point_of m) (reading_of sign p)
reading_holds m truth true h = tt
reading_holds m truth false h = cc
reading_holds m falsity true h = cc
reading_holds m falsity false h = tt
reading_holds m (flag x) true h = h
reading_holds m (flag x) false h = h
reading_holds m (compare o a b) true h = comparison_holds m o a b true h
reading_holds m (compare o a b) false h = comparison_holds m o a b false h
reading_holds m (objects a b) true h = h
reading_holds m (objects a b) false h = h
reading_holds m (negation p) true h = reading_holds m p false (not-true (truth_of m p) h)
reading_holds m (negation p) false h = reading_holds m p true (not-false (truth_of m p) h)
reading_holds m (conjunction p q) true h =
    let k = and_parts (truth_of m p) (truth_of m q) h in (reading_holds m p true k.0, (reading_holds m q true k.1, tt))
reading_holds m (conjunction p q) false h =
    elim (and_cases (truth_of m p) (truth_of m q) h) [ inl k ↦ inl (reading_holds m p false k) | inr k ↦ inr (inl (reading_holds m q false k)) ]
reading_holds m (disjunction p q) true h =
    elim (or_cases (truth_of m p) (truth_of m q) h) [ inl k ↦ inl (reading_holds m p true k) | inr k ↦ inr (inl (reading_holds m q true k)) ]
reading_holds m (disjunction p q) false h =
    let k = or_parts (truth_of m p) (truth_of m q) h in (reading_holds m p false k.0, (reading_holds m q false k.1, tt))
reading_holds m (equivalence p q) true h =
    by (truth_of m p) refl h (reading_holds m p true) (reading_holds m p false) (reading_holds m q true) (reading_holds m q false)
  where
    by : (b : Bool) → truth_of m p ≡ b → same_truth b (truth_of m q) ≡ true
        → (truth_of m p ≡ true → Meets (point_of m) (reading_of true p)) → (truth_of m p ≡ false → Meets (point_of m) (reading_of false p))
        → (truth_of m q ≡ true → Meets (point_of m) (reading_of true q)) → (truth_of m q ≡ false → Meets (point_of m) (reading_of false q))
        → Meets (point_of m) (reading_of true (equivalence p q))
    by true e k a b c d = inl (a e, (c k, tt))
    by false e k a b c d = inr (inl (b e, (d (not-true (truth_of m q) k), tt)))
reading_holds m (equivalence p q) false h =
    by (truth_of m p) refl h (reading_holds m p true) (reading_holds m p false) (reading_holds m q true) (reading_holds m q false)
  where
    by : (b : Bool) → truth_of m p ≡ b → same_truth b (truth_of m q) ≡ false
        → (truth_of m p ≡ true → Meets (point_of m) (reading_of true p)) → (truth_of m p ≡ false → Meets (point_of m) (reading_of false p))
        → (truth_of m q ≡ true → Meets (point_of m) (reading_of true q)) → (truth_of m q ≡ false → Meets (point_of m) (reading_of false q))
        → Meets (point_of m) (reading_of false (equivalence p q))
    by true e k a b c d = inl (a e, (d k, tt))
    by false e k a b c d = inr (inl (b e, (c (not-false (truth_of m q) k), tt)))
