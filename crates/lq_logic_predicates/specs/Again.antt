-- Terms that are numbered already aren't numbered again.
use Rattle.std.proofs.Common.{◌≡◌, List, Option, Some, None, ℤ, refl, ap, ◌∙◌}
use Rattle.lq_logic_predicates.specs.Sum.{Sum, whole, var, neg, add, sub, mul, div, rem, len, measure}
use Rattle.lq_logic_predicates.specs.Table.{has_term, with_term, numbered, literal_of, by_factors, Extends}
use Rattle.lq_logic_predicates.specs.Formula.{Formula, truth, falsity, flag, compare, objects, negation, conjunction, disjunction, equivalence}
use Rattle.lq_logic_predicates.specs.Reading.{formula_numbered}
use Rattle.lq_logic_predicates.specs.Growing.{Extends-refl, Extends-trans, Extends-with_term}
use Rattle.lq_logic_predicates.specs.Numbering.{has_term-with_term, has_term-append, with_term-present}

pub Extends-numbered : (terms : List Sum) (s : Sum) → Extends terms (numbered terms s)
Extends-numbered terms (whole n) = Extends-refl terms
Extends-numbered terms (var x) = Extends-with_term terms (var x)
Extends-numbered terms (neg a) = Extends-numbered terms a
Extends-numbered terms (add a b) = Extends-trans _ _ _ (Extends-numbered terms a) (Extends-numbered (numbered terms a) b)
Extends-numbered terms (sub a b) = Extends-trans _ _ _ (Extends-numbered terms a) (Extends-numbered (numbered terms a) b)
Extends-numbered terms (mul a b) =
    by (literal_of a) (literal_of b) (Extends-trans _ _ _ (Extends-numbered terms a) (Extends-numbered (numbered terms a) b))
  where
    by : (o p : Option ℤ) → Extends terms (numbered (numbered terms a) b)
        → Extends terms (by_factors o p (numbered (numbered terms a) b) (with_term (numbered (numbered terms a) b) (mul a b)))
    by (Some n) p h = h
    by None (Some n) h = h
    by None None h = Extends-trans _ _ _ h (Extends-with_term (numbered (numbered terms a) b) (mul a b))
Extends-numbered terms (div a b) =
    Extends-trans _ _ _ (Extends-trans _ _ _ (Extends-numbered terms a) (Extends-numbered (numbered terms a) b)) (Extends-with_term (numbered (numbered terms a) b) (div a b))
Extends-numbered terms (rem a b) =
    Extends-trans _ _ _ (Extends-trans _ _ _ (Extends-numbered terms a) (Extends-numbered (numbered terms a) b)) (Extends-with_term (numbered (numbered terms a) b) (rem a b))
Extends-numbered terms (len a) = Extends-with_term terms (len a)
Extends-numbered terms (measure f a) = Extends-with_term terms (measure f a)

-- a term that was put in is there
put_again : (terms all : List Sum) (t : Sum) → Extends (with_term terms t) all → with_term all t ≡ all
put_again terms all t x =
    with_term-present all t (ap (λ l. has_term l t) x.is ∙ has_term-append (with_term terms t) x.more t (has_term-with_term terms t))

two_again : (f : List Sum → List Sum) (g : List Sum → List Sum) (all : List Sum) → f all ≡ all → g all ≡ all → g (f all) ≡ all
two_again f g all p q = ap g p ∙ q

three_again : (f : List Sum → List Sum) (g : List Sum → List Sum) (all : List Sum) (t : Sum) → f all ≡ all → g all ≡ all → with_term all t ≡ all → with_term (g (f all)) t ≡ all
three_again f g all t p q r = ap (λ l. with_term l t) (two_again f g all p q) ∙ r

pub numbered_again : (terms all : List Sum) (s : Sum) → Extends (numbered terms s) all → numbered all s ≡ all
numbered_again terms all (whole n) x = refl
numbered_again terms all (var y) x = put_again terms all (var y) x
numbered_again terms all (neg a) x = numbered_again terms all a x
numbered_again terms all (add a b) x =
    two_again (λ l. numbered l a) (λ l. numbered l b) all
    (numbered_again terms all a (Extends-trans _ _ _ (Extends-numbered (numbered terms a) b) x)) (numbered_again (numbered terms a) all b x)
numbered_again terms all (sub a b) x =
    two_again (λ l. numbered l a) (λ l. numbered l b) all
    (numbered_again terms all a (Extends-trans _ _ _ (Extends-numbered (numbered terms a) b) x)) (numbered_again (numbered terms a) all b x)
numbered_again terms all (mul a b) x =
    by (literal_of a) (literal_of b) x
    (λ y. numbered_again terms all a (Extends-trans _ _ _ (Extends-numbered (numbered terms a) b) y)) (numbered_again (numbered terms a) all b)
  where
    by : (o p : Option ℤ) → Extends (by_factors o p (numbered (numbered terms a) b) (with_term (numbered (numbered terms a) b) (mul a b))) all
        → (Extends (numbered (numbered terms a) b) all → numbered all a ≡ all) → (Extends (numbered (numbered terms a) b) all → numbered all b ≡ all)
        → by_factors o p (numbered (numbered all a) b) (with_term (numbered (numbered all a) b) (mul a b)) ≡ all
    by (Some n) p y f g = two_again (λ l. numbered l a) (λ l. numbered l b) all (f y) (g y)
    by None (Some n) y f g = two_again (λ l. numbered l a) (λ l. numbered l b) all (f y) (g y)
    by None None y f g =
        let z = Extends-trans _ _ _ (Extends-with_term (numbered (numbered terms a) b) (mul a b)) y in
        three_again (λ l. numbered l a) (λ l. numbered l b) all (mul a b) (f z) (g z) (put_again (numbered (numbered terms a) b) all (mul a b) y)
numbered_again terms all (div a b) x =
    let z = Extends-trans _ _ _ (Extends-with_term (numbered (numbered terms a) b) (div a b)) x in
    three_again (λ l. numbered l a) (λ l. numbered l b) all (div a b)
    (numbered_again terms all a (Extends-trans _ _ _ (Extends-numbered (numbered terms a) b) z)) (numbered_again (numbered terms a) all b z)
    (put_again (numbered (numbered terms a) b) all (div a b) x)
numbered_again terms all (rem a b) x =
    let z = Extends-trans _ _ _ (Extends-with_term (numbered (numbered terms a) b) (rem a b)) x in
    three_again (λ l. numbered l a) (λ l. numbered l b) all (rem a b)
    (numbered_again terms all a (Extends-trans _ _ _ (Extends-numbered (numbered terms a) b) z)) (numbered_again (numbered terms a) all b z)
    (put_again (numbered (numbered terms a) b) all (rem a b) x)
numbered_again terms all (len a) x = put_again terms all (len a) x
numbered_again terms all (measure f a) x = put_again terms all (measure f a) x

-- both sides of a comparison
pub sides_again : (terms all : List Sum) (a b : Sum) → Extends (numbered (numbered terms a) b) all → numbered (numbered all a) b ≡ all
sides_again terms all a b x =
    two_again (λ l. numbered l a) (λ l. numbered l b) all
    (numbered_again terms all a (Extends-trans _ _ _ (Extends-numbered (numbered terms a) b) x)) (numbered_again (numbered terms a) all b x)

pub turned_again : (terms all : List Sum) (a b : Sum) → Extends (numbered (numbered terms a) b) all → numbered (numbered all b) a ≡ all
turned_again terms all a b x =
    two_again (λ l. numbered l b) (λ l. numbered l a) all
    (numbered_again (numbered terms a) all b x) (numbered_again terms all a (Extends-trans _ _ _ (Extends-numbered (numbered terms a) b) x))

pub Extends-formula : (terms : List Sum) (p : Formula) → Extends terms (formula_numbered terms p)
Extends-formula terms truth = Extends-refl terms
Extends-formula terms falsity = Extends-refl terms
Extends-formula terms (flag x) = Extends-refl terms
Extends-formula terms (compare o a b) = Extends-trans _ _ _ (Extends-numbered terms a) (Extends-numbered (numbered terms a) b)
Extends-formula terms (objects a b) = Extends-refl terms
Extends-formula terms (negation p) = Extends-formula terms p
Extends-formula terms (conjunction p q) = Extends-trans _ _ _ (Extends-formula terms p) (Extends-formula (formula_numbered terms p) q)
Extends-formula terms (disjunction p q) = Extends-trans _ _ _ (Extends-formula terms p) (Extends-formula (formula_numbered terms p) q)
Extends-formula terms (equivalence p q) = Extends-trans _ _ _ (Extends-formula terms p) (Extends-formula (formula_numbered terms p) q)

pub formula_again : (terms all : List Sum) (p : Formula) → Extends (formula_numbered terms p) all → formula_numbered all p ≡ all
formula_again terms all truth x = refl
formula_again terms all falsity x = refl
formula_again terms all (flag y) x = refl
formula_again terms all (compare o a b) x = sides_again terms all a b x
formula_again terms all (objects a b) x = refl
formula_again terms all (negation p) x = formula_again terms all p x
formula_again terms all (conjunction p q) x =
    two_again (λ l. formula_numbered l p) (λ l. formula_numbered l q) all
    (formula_again terms all p (Extends-trans _ _ _ (Extends-formula (formula_numbered terms p) q) x)) (formula_again (formula_numbered terms p) all q x)
formula_again terms all (disjunction p q) x =
    two_again (λ l. formula_numbered l p) (λ l. formula_numbered l q) all
    (formula_again terms all p (Extends-trans _ _ _ (Extends-formula (formula_numbered terms p) q) x)) (formula_again (formula_numbered terms p) all q x)
formula_again terms all (equivalence p q) x =
    two_again (λ l. formula_numbered l p) (λ l. formula_numbered l q) all
    (formula_again terms all p (Extends-trans _ _ _ (Extends-formula (formula_numbered terms p) q) x)) (formula_again (formula_numbered terms p) all q x)
