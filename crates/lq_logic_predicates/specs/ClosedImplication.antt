-- Implications: their terms, their points, and when one is valid.
use Rattle.std.specs.Prelude.{◌≡◌, ◌⊎◌, pos, true, false, List, [], ◌∷◌}
use Rattle.lq_base_numbers.specs.Rationals.Rational.{ℚ, whole as rational, ◌+ℚ◌}
use Rattle.lq_base_numbers.specs.Rationals.RationalOrder.{◌≤ℚ◌}
use Rattle.lq_logic_predicates.specs.Sum.{Sum, whole, var, neg, add, sub, mul, div, rem, len, measure}
use Rattle.lq_logic_predicates.specs.Table.{has_term}
use Rattle.lq_logic_predicates.specs.Formula.{Formula}
use Rattle.lq_logic_predicates.specs.Reading.{reading_of, formula_numbered}
use Rattle.lq_logic_predicates.specs.Truth.{Meaning, IsTrueIn}
use Rattle.lq_logic_predicates.specs.Points.{Point, form_at, Meets}

pub record ClosedImplication : Type 0 where
  pub hypotheses : List Formula
  pub goal : Formula

abbrev pub each_numbered : List Sum → List Formula → List Sum
each_numbered terms [] = terms
each_numbered terms (p ∷ ps) = each_numbered (formula_numbered terms p) ps

-- the terms that a table numbers, by their first appearance through the hypotheses and the goal
abbrev pub terms_in : ClosedImplication → List Sum
terms_in i = formula_numbered (each_numbered [] i.hypotheses) i.goal

-- at least 1 apart
abbrev pub AreApart : ℚ → ℚ → Type 0
AreApart x y = ((x +ℚ rational (pos 1)) ≤ℚ y) ⊎ ((y +ℚ rational (pos 1)) ≤ℚ x)

-- of two applications of one function of two numbers: the arguments and the results are equal, or some arguments are apart
abbrev pub AgreeOrApart : Point → Sum → Sum → Sum → Sum → ℚ → ℚ → Type 0
AgreeOrApart p a b c d r s =
    ((form_at p a ≡ form_at p c) × (form_at p b ≡ form_at p d) × (r ≡ s)) ⊎ AreApart (form_at p a) (form_at p c) ⊎ AreApart (form_at p b) (form_at p d)

-- the condition of a point on two of its terms
abbrev pub Agree : Point → Sum → Sum → Type 0
Agree p (mul a b) (mul c d) = AgreeOrApart p a b c d (p.number (mul a b)) (p.number (mul c d))
Agree p (div a b) (div c d) = AgreeOrApart p a b c d (p.number (div a b)) (p.number (div c d))
Agree p (rem a b) (rem c d) = AgreeOrApart p a b c d (p.number (rem a b)) (p.number (rem c d))
Agree p (len a) (len b) = p.class_of a ≡ p.class_of b → p.number (len a) ≡ p.number (len b)
Agree p (measure f a) (measure g b) = f ≡ g → p.class_of a ≡ p.class_of b → p.number (measure f a) ≡ p.number (measure g b)
Agree p (mul a b) _ = Unit {0}
Agree p (div a b) _ = Unit {0}
Agree p (rem a b) _ = Unit {0}
Agree p (len a) _ = Unit {0}
Agree p (measure f a) _ = Unit {0}
Agree p (whole n) _ = Unit {0}
Agree p (var x) _ = Unit {0}
Agree p (neg a) _ = Unit {0}
Agree p (add a b) _ = Unit {0}
Agree p (sub a b) _ = Unit {0}

-- a point of the implication: each two of its terms agree
abbrev pub IsPoint : ClosedImplication → Point → Type 0
IsPoint i p = (s t : Sum) → has_term (terms_in i) s ≡ true → has_term (terms_in i) t ≡ true → Agree p s t

abbrev pub MeetsEach : Point → List Formula → Type 0
MeetsEach p [] = Unit {0}
MeetsEach p (q ∷ qs) = Meets p (reading_of true q) × MeetsEach p qs

abbrev pub EachTrueIn : Meaning → List Formula → Type 0
EachTrueIn m [] = Unit {0}
EachTrueIn m (q ∷ qs) = IsTrueIn m q × EachTrueIn m qs

-- no point meets the readings of the hypotheses and of the negated goal
abbrev pub IsValid : ClosedImplication → Type 0
IsValid i = (p : Point) → IsPoint i p → MeetsEach p i.hypotheses → Meets p (reading_of false i.goal) → ⊥
