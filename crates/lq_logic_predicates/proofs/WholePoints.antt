-- Whole numbers make a point of every implication, so a valid one is true of them.
use Rattle.std.proofs.Common.{◌≡◌, ◌⊎◌, inl, inr, ℤ, pos, Bool, true, false, List, [], ◌∷◌, refl, sym, ap, ap₂, subst, ◌∙◌, arith}
use Rattle.std.proofs.Math.IntN.{◌+ℤ◌, ◌*ℤ◌}
use Rattle.std.specs.Int.Signed.{lt_z}
use Rattle.std.specs.Ordering.{int_eq}
use Rattle.std.proofs.lemmas.Int.{ints}
use Rattle.std.proofs.lemmas.Bool.Decides.{Decides-int_eq}
use Rattle.lq_base_numbers.specs.Rationals.Rational.{whole as rational, ◌+ℚ◌}
use Rattle.lq_base_numbers.specs.Rationals.RationalOrder.{◌≤ℚ◌}
use Rattle.lq_base_numbers.specs.Rationals.Whole.{whole-sum, whole_at_most}
use Rattle.lq_logic_predicates.specs.Sum.{Sum, whole, var, neg, add, sub, mul, div, rem, len, measure}
use Rattle.lq_logic_predicates.specs.Formula.{Formula}
use Rattle.lq_logic_predicates.specs.Truth.{Meaning, term_value, truth_of, IsTrueIn, quotient, remainder}
use Rattle.lq_logic_predicates.specs.Points.{form_at, point_of}
use Rattle.lq_logic_predicates.specs.ClosedImplication.{ClosedImplication, AreApart, AgreeOrApart, Agree, IsPoint, MeetsEach, EachTrueIn, IsValid}
use Rattle.lq_logic_predicates.proofs.WholeNumbers.{form_value, one_below, reading_holds}

one_apart : (x y : ℤ) → lt_z x y ≡ true → (rational x +ℚ rational (pos 1)) ≤ℚ rational y
one_apart x y h = subst (λ z. z ≤ℚ rational y) (sym (whole-sum x (pos 1))) (whole_at_most (x +ℤ pos 1) y (omega (arith, ints)))

apart_values : (m : Meaning) (a b : Sum) → int_eq (term_value m a) (term_value m b) ≡ false → AreApart (form_at (point_of m) a) (form_at (point_of m) b)
apart_values m a b h =
    subst (λ x. AreApart x (form_at (point_of m) b)) (sym (form_value m a)) (subst (λ y. AreApart (rational (term_value m a)) y) (sym (form_value m b)) (by (one_below (term_value m a) (term_value m b) h)))
  where
    by : (lt_z (term_value m a) (term_value m b) ≡ true) ⊎ (lt_z (term_value m b) (term_value m a) ≡ true) → AreApart (rational (term_value m a)) (rational (term_value m b))
    by (inl p) = inl (one_apart (term_value m a) (term_value m b) p)
    by (inr p) = inr (one_apart (term_value m b) (term_value m a) p)

-- equal arguments of a function of two whole numbers have equal results
agree : (m : Meaning) (f : ℤ → ℤ → ℤ) (a b c d : Sum)
    → AgreeOrApart (point_of m) a b c d (rational (f (term_value m a) (term_value m b))) (rational (f (term_value m c) (term_value m d)))
agree m f a b c d = by (int_eq (term_value m a) (term_value m c)) (int_eq (term_value m b) (term_value m d)) refl refl
  where
    one_value : (s t : Sum) → int_eq (term_value m s) (term_value m t) ≡ true → term_value m s ≡ term_value m t
    one_value s t h = (Decides-int_eq (term_value m s) (term_value m t)).0 h

    one_form : (s t : Sum) → int_eq (term_value m s) (term_value m t) ≡ true → form_at (point_of m) s ≡ form_at (point_of m) t
    one_form s t h = form_value m s ∙ ap rational (one_value s t h) ∙ sym (form_value m t)

    by : (x y : Bool) → int_eq (term_value m a) (term_value m c) ≡ x → int_eq (term_value m b) (term_value m d) ≡ y
        → AgreeOrApart (point_of m) a b c d (rational (f (term_value m a) (term_value m b))) (rational (f (term_value m c) (term_value m d)))
    by true true p q = inl (one_form a c p, one_form b d q, ap₂ (λ u v. rational (f u v)) (one_value a c p) (one_value b d q))
    by true false p q = inr (inr (apart_values m b d q))
    by false true p q = inr (inl (apart_values m a c p))
    by false false p q = inr (inl (apart_values m a c p))

agrees : (m : Meaning) (s t : Sum) → Agree (point_of m) s t
agrees m (mul a b) (mul c d) = agree m (λ x y. x *ℤ y) a b c d
agrees m (mul a b) _ = tt
agrees m (div a b) (div c d) = agree m quotient a b c d
agrees m (div a b) _ = tt
agrees m (rem a b) (rem c d) = agree m remainder a b c d
agrees m (rem a b) _ = tt
agrees m (len a) (len b) = λ e. ap (λ o. rational (m.length o)) e
agrees m (len a) _ = tt
agrees m (measure f a) (measure g b) = λ e h. ap₂ (λ n o. rational (m.measured n o)) e h
agrees m (measure f a) _ = tt
agrees m (whole n) t = tt
agrees m (var x) t = tt
agrees m (neg a) t = tt
agrees m (add a b) t = tt
agrees m (sub a b) t = tt

pub whole_point : (m : Meaning) (i : ClosedImplication) → IsPoint i (point_of m)
whole_point m i s t p q = agrees m s t

each_meets : (m : Meaning) (ps : List Formula) → EachTrueIn m ps → MeetsEach (point_of m) ps
each_meets m [] h = tt
each_meets m (p ∷ ps) h = (reading_holds m p true h.0, each_meets m ps h.1)

pub valid_is_true : (m : Meaning) (i : ClosedImplication) → IsValid i → EachTrueIn m i.hypotheses → IsTrueIn m i.goal
valid_is_true m i v h = by (truth_of m i.goal) refl
  where
    by : (b : Bool) → truth_of m i.goal ≡ b → b ≡ true
    by true e = refl
    by false e = absurd (v (point_of m) (whole_point m i) (each_meets m i.hypotheses h) (reading_holds m i.goal false e))
