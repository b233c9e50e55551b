-- A point of plain predicates whose classes tell the arguments of lengths and measures apart is one of their implication.
use Rattle.std.proofs.Common.{◌≡◌, ℕ, ℤ, Bool, true, false, List, [], ◌∷◌, ◌++◌, Option, Some, None, if◌then◌else◌, ◌||◌, slice_get, refl, sym, ap, subst, ◌∙◌}
use Rattle.lq_solve_facts.specs.Facts.Plain.{HasLiteral, IsPlain, IsPlainSum}
use Rattle.lq_solve_facts.specs.Nearest.Reading.{EachPlain}
use Rattle.lq_refined_types.specs.Parts.Assignment.{all_joined, joined}
use Rattle.lq_logic_predicates.specs.ClosedImplication.{Agree, ClosedImplication, IsPoint, each_numbered, terms_in}
use Rattle.lq_logic_predicates.specs.Formula.{Formula, truth, falsity, flag, compare, objects, negation, conjunction, disjunction, equivalence}
use Rattle.lq_logic_predicates.specs.Numbering.{has_term-append, slice_get-index_of}
use Rattle.lq_logic_predicates.specs.Points.{Point}
use Rattle.lq_logic_predicates.specs.Reading.{formula_numbered}
use Rattle.lq_logic_predicates.specs.SameLaws.{same-is, same-refl}
use Rattle.lq_logic_predicates.specs.Sum.{Sum, whole, var, neg, add, sub, mul, div, rem, len, measure, same}
use Rattle.lq_logic_predicates.specs.Table.{by_factors, has_term, index_of, literal_of, numbered, with_term}

-- ---- the terms that plain predicates number

-- a variable, a length or a measure
abbrev IsSimple : Sum → Type 0
IsSimple (whole n) = ⊥
IsSimple (var x) = Unit {0}
IsSimple (neg a) = ⊥
IsSimple (add a b) = ⊥
IsSimple (sub a b) = ⊥
IsSimple (mul a b) = ⊥
IsSimple (div a b) = ⊥
IsSimple (rem a b) = ⊥
IsSimple (len a) = Unit {0}
IsSimple (measure f a) = Unit {0}

abbrev EachSimple : List Sum → Type 0
EachSimple [] = Unit {0}
EachSimple (t ∷ terms) = IsSimple t × EachSimple terms

simple_last : (terms : List Sum) (t : Sum) → EachSimple terms → IsSimple t → EachSimple (terms ++ t ∷ [])
simple_last [] t h k = (k, tt)
simple_last (u ∷ terms) t h k = (h.0, simple_last terms t h.1 k)

simple_with : (terms : List Sum) (t : Sum) → EachSimple terms → IsSimple t → EachSimple (with_term terms t)
simple_with terms t h k = by (has_term terms t)
  where
    by : (b : Bool) → EachSimple (if b then terms else terms ++ t ∷ [])
    by true = h
    by false = simple_last terms t h k

simple_sum : (terms : List Sum) (s : Sum) → IsPlainSum s → EachSimple terms → EachSimple (numbered terms s)
simple_sum terms (whole n) p h = h
simple_sum terms (var x) p h = simple_with terms (var x) h tt
simple_sum terms (neg a) p h = simple_sum terms a p h
simple_sum terms (add a b) p h = simple_sum (numbered terms a) b p.1 (simple_sum terms a p.0 h)
simple_sum terms (sub a b) p h = simple_sum (numbered terms a) b p.1 (simple_sum terms a p.0 h)
simple_sum terms (mul a b) p h = by (literal_of a) (literal_of b) p.0 (simple_sum (numbered terms a) b p.1.1 (simple_sum terms a p.1.0 h))
  where
    by : (o q : Option ℤ) → HasLiteral o q → EachSimple (numbered (numbered terms a) b)
        → EachSimple (by_factors o q (numbered (numbered terms a) b) (with_term (numbered (numbered terms a) b) (mul a b)))
    by (Some n) q l f = f
    by None (Some n) l f = f
    by None None l f = absurd l
simple_sum terms (div a b) p h = absurd p
simple_sum terms (rem a b) p h = absurd p
simple_sum terms (len a) p h = simple_with terms (len a) h tt
simple_sum terms (measure f a) p h = simple_with terms (measure f a) h tt

simple_formula : (terms : List Sum) (q : Formula) → IsPlain q → EachSimple terms → EachSimple (formula_numbered terms q)
simple_formula terms truth p h = h
simple_formula terms falsity p h = h
simple_formula terms (flag x) p h = h
simple_formula terms (compare o a b) p h = simple_sum (numbered terms a) b p.1 (simple_sum terms a p.0 h)
simple_formula terms (objects a b) p h = h
simple_formula terms (negation q) p h = simple_formula terms q p h
simple_formula terms (conjunction q r) p h = simple_formula (formula_numbered terms q) r p.1 (simple_formula terms q p.0 h)
simple_formula terms (disjunction q r) p h = simple_formula (formula_numbered terms q) r p.1 (simple_formula terms q p.0 h)
simple_formula terms (equivalence q r) p h = simple_formula (formula_numbered terms q) r p.1 (simple_formula terms q p.0 h)

simple_each : (terms : List Sum) (qs : List Formula) → EachPlain qs → EachSimple terms → EachSimple (each_numbered terms qs)
simple_each terms [] p h = h
simple_each terms (q ∷ qs) p h = simple_each (formula_numbered terms q) qs p.1 (simple_formula terms q p.0 h)

simple_has : (terms : List Sum) (t : Sum) → EachSimple terms → has_term terms t ≡ true → IsSimple t
simple_has [] t h e = absurd (cc)
simple_has (u ∷ terms) t h e = by (same t u) refl (simple_has terms t h.1) e
  where
    by : (b : Bool) → same t u ≡ b → (has_term terms t ≡ true → IsSimple t) → (b || has_term terms t) ≡ true → IsSimple t
    by true s f k = subst IsSimple (sym (same-is t u s)) h.0
    by false s f k = f k

-- ---- classes for the arguments of lengths and measures

-- the object of which a term is the length or a measure
abbrev object : Sum → List Sum
object (whole n) = []
object (var x) = []
object (neg a) = []
object (add a b) = []
object (sub a b) = []
object (mul a b) = []
object (div a b) = []
object (rem a b) = []
object (len a) = a ∷ []
object (measure f a) = a ∷ []

abbrev objects_of : List Sum → List Sum
objects_of [] = []
objects_of (t ∷ terms) = object t ++ objects_of terms

-- another class for each of them
abbrev pub classes_of : List Sum → Sum → ℕ
classes_of terms = index_of (objects_of terms)

has_right : (xs ys : List Sum) (t : Sum) → has_term ys t ≡ true → has_term (xs ++ ys) t ≡ true
has_right [] ys t h = h
has_right (x ∷ xs) ys t h = by (same t x) (has_right xs ys t h)
  where
    by : (b : Bool) → has_term (xs ++ ys) t ≡ true → (b || has_term (xs ++ ys) t) ≡ true
    by true k = refl
    by false k = k

object_there : (terms : List Sum) (t a : Sum) → has_term terms t ≡ true → has_term (object t) a ≡ true → has_term (objects_of terms) a ≡ true
object_there [] t a h k = absurd (cc)
object_there (u ∷ terms) t a h k = by (same t u) refl (λ e. object_there terms t a e k) h
  where
    by : (b : Bool) → same t u ≡ b → (has_term terms t ≡ true → has_term (objects_of terms) a ≡ true) → (b || has_term terms t) ≡ true → has_term (object u ++ objects_of terms) a ≡ true
    by true s f e = has_term-append (object u) (objects_of terms) a (subst (λ x. has_term (object x) a ≡ true) (same-is t u s) k)
    by false s f e = has_right (object u) (objects_of terms) a (f e)

some_is : (a b : Sum) → Some a ≡ Some b → a ≡ b
some_is a b e = cc

told_apart : (terms : List Sum) (a b : Sum) → has_term terms a ≡ true → has_term terms b ≡ true → index_of terms a ≡ index_of terms b → a ≡ b
told_apart terms a b h k e = some_is a b (sym (slice_get-index_of terms a h) ∙ ap (slice_get terms) e ∙ slice_get-index_of terms b k)

one_here : (a : Sum) → has_term (a ∷ []) a ≡ true
one_here a = ap (λ b. b || false) (same-refl a)

-- two objects of terms that have one class are one
one_object : (terms : List Sum) (p : Point) (s t a b : Sum) → p.class_of ≡ classes_of terms → has_term terms s ≡ true → has_term terms t ≡ true
    → has_term (object s) a ≡ true → has_term (object t) b ≡ true → p.class_of a ≡ p.class_of b → a ≡ b
one_object terms p s t a b c h k m n e =
    told_apart (objects_of terms) a b (object_there terms s a h m) (object_there terms t b k n) (subst (λ f. f a ≡ f b) c e)

simple_agree : (terms : List Sum) (p : Point) → p.class_of ≡ classes_of terms → (s t : Sum) → IsSimple s → IsSimple t → has_term terms s ≡ true → has_term terms t ≡ true → Agree p s t
simple_agree terms p c (len a) (len b) i j h k = λ e. ap (λ x. p.number (len x)) (one_object terms p (len a) (len b) a b c h k (one_here a) (one_here b) e)
simple_agree terms p c (measure f a) (measure g b) i j h k =
    λ d e. ap (λ y. p.number (measure y a)) d ∙ ap (λ x. p.number (measure g x)) (one_object terms p (measure f a) (measure g b) a b c h k (one_here a) (one_here b) e)
simple_agree terms p c (var x) t i j h k = tt
simple_agree terms p c (len a) (var x) i j h k = tt
simple_agree terms p c (len a) (measure g b) i j h k = tt
simple_agree terms p c (measure f a) (var x) i j h k = tt
simple_agree terms p c (measure f a) (len b) i j h k = tt
simple_agree terms p c (len a) (whole n) i j h k = absurd j
simple_agree terms p c (len a) (neg b) i j h k = absurd j
simple_agree terms p c (len a) (add b d) i j h k = absurd j
simple_agree terms p c (len a) (sub b d) i j h k = absurd j
simple_agree terms p c (len a) (mul b d) i j h k = absurd j
simple_agree terms p c (len a) (div b d) i j h k = absurd j
simple_agree terms p c (len a) (rem b d) i j h k = absurd j
simple_agree terms p c (measure f a) (whole n) i j h k = absurd j
simple_agree terms p c (measure f a) (neg b) i j h k = absurd j
simple_agree terms p c (measure f a) (add b d) i j h k = absurd j
simple_agree terms p c (measure f a) (sub b d) i j h k = absurd j
simple_agree terms p c (measure f a) (mul b d) i j h k = absurd j
simple_agree terms p c (measure f a) (div b d) i j h k = absurd j
simple_agree terms p c (measure f a) (rem b d) i j h k = absurd j
simple_agree terms p c (whole n) t i j h k = absurd i
simple_agree terms p c (neg a) t i j h k = absurd i
simple_agree terms p c (add a b) t i j h k = absurd i
simple_agree terms p c (sub a b) t i j h k = absurd i
simple_agree terms p c (mul a b) t i j h k = absurd i
simple_agree terms p c (div a b) t i j h k = absurd i
simple_agree terms p c (rem a b) t i j h k = absurd i

-- a point with these classes is one of the implication
pub plain_point : (i : ClosedImplication) (p : Point) → EachPlain i.hypotheses → IsPlain i.goal → p.class_of ≡ classes_of (terms_in i) → IsPoint i p
plain_point i p hs g c = λ s t h k.
    let simple : EachSimple (terms_in i) = simple_formula (each_numbered [] i.hypotheses) i.goal g (simple_each [] i.hypotheses hs tt) in
    simple_agree (terms_in i) p c s t (simple_has (terms_in i) s simple h) (simple_has (terms_in i) t simple k) h k

-- ---- conjunctions

plain_joined : (p : Formula) (qs : List Formula) → IsPlain p → EachPlain qs → IsPlain (joined p qs)
plain_joined p [] h k = h
plain_joined p (q ∷ qs) h k = plain_joined (conjunction p q) qs (h, k.0) k.1

pub plain_all_joined : (qs : List Formula) → EachPlain qs → IsPlain (all_joined qs)
plain_all_joined [] h = tt
plain_all_joined (q ∷ qs) h = plain_joined q qs h.0 h.1
