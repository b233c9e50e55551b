-- The comparisons of readings are literals.
use Rattle.std.proofs.Common.{◌≡◌, inl, inr, ℕ, zero, suc, ◌<◌, List, [], ◌∷◌, ◌++◌, Bool, true, false, not, get_or, length, map, All, arith, sym, subst}
use Rattle.std.specs.List.{Contains}
use Rattle.std.proofs.lemmas.List.Elements.{Contains-append_left, Contains-append_right, Contains-append_cases, All-contains, All-contains_itself}
use Rattle.lq_logic_predicates.specs.Comparison.{Comparison, CanGather}
use Rattle.lq_logic_predicates.specs.Formula.{Formula, truth, falsity, flag, compare, objects, negation, conjunction, disjunction, equivalence}
use Rattle.lq_logic_predicates.specs.ClosedImplication.{ClosedImplication, terms_in}
use Rattle.lq_logic_predicates.specs.Literals.{Signs, positive, negative, both, comparisons_of, literals_of, each_literals, all_pairs, implication_literals}
use Rattle.lq_logic_predicates.specs.Reading.{Reading, reading_of, AllFitIn}
use Rattle.lq_logic_predicates.specs.PredView.{formula_of}
use Rattle.lq_logic_predicates.specs.declared.pred.Pred.{Pred}
use Rattle.lq_logic_points.proofs.Reading.{all_fit}

-- each comparison of the one list is in the other
abbrev pub Sub : List Comparison → List Comparison → Type 0
Sub xs ys = (c : Comparison) → Contains xs c → Contains ys c

nothing : (ys : List Comparison) → Sub [] ys
nothing ys c h = absurd (omega (arith, h.1))

joined : (xs ys zs : List Comparison) → Sub xs zs → Sub ys zs → Sub (xs ++ ys) zs
joined xs ys zs f g c h = elim (Contains-append_cases xs ys c h) [ inl a ↦ f c a | inr b ↦ g c b ]

pair : (xs ys zs : List Comparison) → Sub xs zs → Sub ys zs → Sub (xs ++ (ys ++ [])) zs
pair xs ys zs f g = joined xs (ys ++ []) zs f (joined ys [] zs g (nothing zs))

to_left : (xs ys zs : List Comparison) → Sub xs ys → Sub xs (ys ++ zs)
to_left xs ys zs f c h = Contains-append_left ys zs c (f c h)

to_right : (xs ys zs : List Comparison) → Sub xs zs → Sub xs (ys ++ zs)
to_right xs ys zs f c h = Contains-append_right ys zs c (f c h)

abbrev signs_of : Bool → Signs
signs_of true = positive
signs_of false = negative

abbrev Comparisons : Bool → Formula → List Comparison
Comparisons sign p = comparisons_of (reading_of sign p)

two : (s t : Bool) (p q : Formula) (xs ys : List Comparison) → Sub (Comparisons s p) xs → Sub (Comparisons t q) ys → Sub (Comparisons s p ++ (Comparisons t q ++ [])) (xs ++ ys)
two s t p q xs ys f g = pair (Comparisons s p) (Comparisons t q) (xs ++ ys) (to_left (Comparisons s p) xs ys f) (to_right (Comparisons t q) xs ys g)

-- both or neither of two, or the one without the other
four : (sign : Bool) (p q : Formula) → Sub (Comparisons true p) (literals_of both p) → Sub (Comparisons false p) (literals_of both p)
    → Sub (Comparisons sign q) (literals_of both q) → Sub (Comparisons (not sign) q) (literals_of both q)
    → Sub ((Comparisons true p ++ (Comparisons sign q ++ [])) ++ ((Comparisons false p ++ (Comparisons (not sign) q ++ [])) ++ [])) (literals_of both p ++ literals_of both q)
four sign p q a b c d =
    pair (Comparisons true p ++ (Comparisons sign q ++ [])) (Comparisons false p ++ (Comparisons (not sign) q ++ [])) (literals_of both p ++ literals_of both q)
    (two true sign p q (literals_of both p) (literals_of both q) a c) (two false (not sign) p q (literals_of both p) (literals_of both q) b d)

-- the reading with either sign under an equivalence
under_both : (sign : Bool) (p : Formula) → Sub (Comparisons sign p) (literals_of both p)
under_both true truth = nothing []
under_both false truth = nothing []
under_both true falsity = nothing []
under_both false falsity = nothing []
under_both true (flag x) = nothing []
under_both false (flag x) = nothing []
under_both true (compare o a b) = to_left (Comparisons true (compare o a b)) (Comparisons true (compare o a b)) (Comparisons false (compare o a b)) (λ c h. h)
under_both false (compare o a b) = to_right (Comparisons false (compare o a b)) (Comparisons true (compare o a b)) (Comparisons false (compare o a b)) (λ c h. h)
under_both true (objects a b) = nothing []
under_both false (objects a b) = nothing []
under_both true (negation p) = under_both false p
under_both false (negation p) = under_both true p
under_both true (conjunction p q) = two true true p q (literals_of both p) (literals_of both q) (under_both true p) (under_both true q)
under_both false (conjunction p q) = two false false p q (literals_of both p) (literals_of both q) (under_both false p) (under_both false q)
under_both true (disjunction p q) = two true true p q (literals_of both p) (literals_of both q) (under_both true p) (under_both true q)
under_both false (disjunction p q) = two false false p q (literals_of both p) (literals_of both q) (under_both false p) (under_both false q)
under_both true (equivalence p q) = four true p q (under_both true p) (under_both false p) (under_both true q) (under_both false q)
under_both false (equivalence p q) = four false p q (under_both true p) (under_both false p) (under_both false q) (under_both true q)

under_sign : (sign : Bool) (p : Formula) → Sub (Comparisons sign p) (literals_of (signs_of sign) p)
under_sign true truth = nothing []
under_sign false truth = nothing []
under_sign true falsity = nothing []
under_sign false falsity = nothing []
under_sign true (flag x) = nothing []
under_sign false (flag x) = nothing []
under_sign true (compare o a b) = λ c h. h
under_sign false (compare o a b) = λ c h. h
under_sign true (objects a b) = nothing []
under_sign false (objects a b) = nothing []
under_sign true (negation p) = under_sign false p
under_sign false (negation p) = under_sign true p
under_sign true (conjunction p q) = two true true p q (literals_of positive p) (literals_of positive q) (under_sign true p) (under_sign true q)
under_sign false (conjunction p q) = two false false p q (literals_of negative p) (literals_of negative q) (under_sign false p) (under_sign false q)
under_sign true (disjunction p q) = two true true p q (literals_of positive p) (literals_of positive q) (under_sign true p) (under_sign true q)
under_sign false (disjunction p q) = two false false p q (literals_of negative p) (literals_of negative q) (under_sign false p) (under_sign false q)
under_sign true (equivalence p q) = four true p q (under_both true p) (under_both false p) (under_both true q) (under_both false q)
under_sign false (equivalence p q) = four false p q (under_both true p) (under_both false p) (under_both false q) (under_both true q)

-- a hypothesis, the goal, and two terms of an implication
each_literal : (preds : List Pred) (k : ℕ) (d : Pred) → k < length preds → Sub (Comparisons true (formula_of (get_or preds k d))) (each_literals (map formula_of preds))
each_literal [] k d w = absurd (omega (arith, w))
each_literal (p ∷ preds) zero d w =
    to_left (Comparisons true (formula_of p)) (literals_of positive (formula_of p)) (each_literals (map formula_of preds)) (under_sign true (formula_of p))
each_literal (p ∷ preds) (suc k) d w =
    to_right (Comparisons true (formula_of (get_or preds k d))) (literals_of positive (formula_of p)) (each_literals (map formula_of preds)) (each_literal preds k d (omega (arith, w)))

pub hypothesis_literal : (preds : List Pred) (i : ClosedImplication) → i.hypotheses ≡ map formula_of preds → (k : ℕ) (d : Pred) → k < length preds
    → Sub (Comparisons true (formula_of (get_or preds k d))) (implication_literals i)
hypothesis_literal preds i e k d w c h =
    Contains-append_left (each_literals i.hypotheses ++ literals_of negative i.goal) (all_pairs (terms_in i)) c
    (Contains-append_left (each_literals i.hypotheses) (literals_of negative i.goal) c (subst (λ l. Contains (each_literals l) c) (sym e) (each_literal preds k d w c h)))

pub goal_literal : (i : ClosedImplication) → Sub (Comparisons false i.goal) (implication_literals i)
goal_literal i c h =
    Contains-append_left (each_literals i.hypotheses ++ literals_of negative i.goal) (all_pairs (terms_in i)) c
    (Contains-append_right (each_literals i.hypotheses) (literals_of negative i.goal) c (under_sign false i.goal c h))

pub pair_literal : (i : ClosedImplication) → Sub (all_pairs (terms_in i)) (implication_literals i)
pair_literal i c h = Contains-append_right (each_literals i.hypotheses ++ literals_of negative i.goal) (all_pairs (terms_in i)) c h

-- where the literals can be gathered, so can what is among them
pub fits_among : (literals : List Comparison) (r : Reading Comparison) → All CanGather literals → Sub (comparisons_of r) literals → AllFitIn r
fits_among literals r fits f = all_fit r (λ c h. All-contains CanGather literals c fits (f c h))

pub all_among : (literals xs : List Comparison) → All CanGather literals → Sub xs literals → All CanGather xs
all_among literals xs fits f = λ k d w. All-contains CanGather literals (get_or xs k d) fits (f (get_or xs k d) (All-contains_itself xs k d w))
