-- The terms of each literal of an implication are among those of the implication.
use Rattle.std.proofs.Common.{◌≡◌, inl, inr, ℤ, pos, Bool, true, false, List, [], ◌∷◌, ◌++◌, Option, Some, None, All, ◌==◌, if◌then◌else◌, sym, subst}
use Rattle.std.proofs.lemmas.List.Elements.{All-append, All-cons, All-nil}
use Rattle.lq_prover_proof_tree.specs.Trees.Proves.{AreNoLiterals}
use Rattle.lq_prover_case.proofs.EquationsLemmas.Plain.{IsPlain, terms_plain}
use Rattle.lq_base_names.specs.declared.operation.CompareOp.{CompareOp}
use Rattle.lq_base_names.specs.declared.operation.CompareOp.TheVariants as op
use Rattle.lq_logic_predicates.proofs.FormSums.{OnLiterals, Stands, stands_numbered}
use Rattle.lq_logic_predicates.specs.Again.{Extends-formula, Extends-numbered}
use Rattle.lq_logic_predicates.specs.ClosedImplication.{ClosedImplication, each_numbered, terms_in}
use Rattle.lq_logic_predicates.specs.Comparison.{Comparison, comparison}
use Rattle.lq_logic_predicates.specs.Formula.{Formula, truth, falsity, flag, compare, objects, negation, conjunction, disjunction, equivalence}
use Rattle.lq_logic_predicates.specs.Growing.{Extends-refl, Extends-trans, Extends-with_term}
use Rattle.lq_logic_predicates.specs.Literals.{Signs, positive, negative, both, opposite, all_pairs, below_row, comparisons_of, condition_rows, each_literals, equal_row, implication_literals, literals_of, pair_rows, rows_with}
use Rattle.lq_logic_predicates.specs.Numbering.{has_term-here}
use Rattle.lq_logic_predicates.specs.Reading.{comparison_reading, formula_numbered}
use Rattle.lq_logic_predicates.specs.Sum.{Sum, whole, var, neg, add, sub, mul, div, rem, len, measure, same}
use Rattle.lq_logic_predicates.specs.Table.{Extends, by_factors, has_term, literal_of, numbered, with_term}
use Rattle.std.proofs.lemmas.Bool.{or_right}
use Rattle.lq_solve_strongest.proofs.SelectionsLemmas.Terms.{added}

-- both sides' terms are there
pub record Stand (l : List Sum) (c : Comparison) : Type 0 where
  pub left : Stands l c.left
  pub right : Stands l c.right

sides : (l : List Sum) (a b : Sum) (n : ℤ) (e : Bool) → Stands l a → Stands l b → Stand l (comparison a b n e)
sides l a b n e s t = record { left = s; right = t }

one : (l : List Sum) (c : Comparison) → Stand l c → All (Stand l) (c ∷ [])
one l c s = All-cons (Stand l) c [] s (All-nil (Stand l))

two : (l : List Sum) (c d : Comparison) → Stand l c → Stand l d → All (Stand l) (c ∷ d ∷ [])
two l c d s t = All-cons (Stand l) c (d ∷ []) s (one l d t)

-- ---- the literals of predicates

reading_stands : (l : List Sum) (sign : Bool) (o : CompareOp) (a b : Sum) → Stands l a → Stands l b → All (Stand l) (comparisons_of (comparison_reading sign o a b))
reading_stands l true op.Eq a b s t = one l _ (sides l a b (pos 0) true s t)
reading_stands l true op.Ne a b s t = two l _ _ (sides l a b (pos 1) false s t) (sides l b a (pos 1) false t s)
reading_stands l true op.Lt a b s t = one l _ (sides l a b (pos 1) false s t)
reading_stands l true op.Le a b s t = one l _ (sides l a b (pos 0) false s t)
reading_stands l true op.Gt a b s t = one l _ (sides l b a (pos 1) false t s)
reading_stands l true op.Ge a b s t = one l _ (sides l b a (pos 0) false t s)
reading_stands l false op.Eq a b s t = two l _ _ (sides l a b (pos 1) false s t) (sides l b a (pos 1) false t s)
reading_stands l false op.Ne a b s t = one l _ (sides l a b (pos 0) true s t)
reading_stands l false op.Lt a b s t = one l _ (sides l b a (pos 0) false t s)
reading_stands l false op.Le a b s t = one l _ (sides l b a (pos 1) false t s)
reading_stands l false op.Gt a b s t = one l _ (sides l a b (pos 0) false s t)
reading_stands l false op.Ge a b s t = one l _ (sides l a b (pos 1) false s t)

compare_stands : (l : List Sum) (s : Signs) (o : CompareOp) (a b : Sum) → Stands l a → Stands l b → All (Stand l) (literals_of s (compare o a b))
compare_stands l positive o a b s t = reading_stands l true o a b s t
compare_stands l negative o a b s t = reading_stands l false o a b s t
compare_stands l both o a b s t =
    All-append (Stand l) (comparisons_of (comparison_reading true o a b)) (comparisons_of (comparison_reading false o a b)) (reading_stands l true o a b s t)
    (reading_stands l false o a b s t)

two_stand : (l : List Sum) (cs ds : List Comparison) → All (Stand l) cs → All (Stand l) ds → All (Stand l) (cs ++ ds)
two_stand l cs ds h k = All-append (Stand l) cs ds h k

formula_stands : (terms all : List Sum) (s : Signs) (p : Formula) → Extends (formula_numbered terms p) all → All (Stand all) (literals_of s p)
formula_stands terms all s truth x = All-nil (Stand all)
formula_stands terms all s falsity x = All-nil (Stand all)
formula_stands terms all s (flag y) x = All-nil (Stand all)
formula_stands terms all s (compare o a b) x =
    compare_stands all s o a b (stands_numbered terms all a (Extends-trans _ _ _ (Extends-numbered (numbered terms a) b) x)) (stands_numbered (numbered terms a) all b x)
formula_stands terms all s (objects a b) x = All-nil (Stand all)
formula_stands terms all s (negation p) x = formula_stands terms all (opposite s) p x
formula_stands terms all s (conjunction p q) x =
    two_stand all (literals_of s p) (literals_of s q) (formula_stands terms all s p (Extends-trans _ _ _ (Extends-formula (formula_numbered terms p) q) x))
    (formula_stands (formula_numbered terms p) all s q x)
formula_stands terms all s (disjunction p q) x =
    two_stand all (literals_of s p) (literals_of s q) (formula_stands terms all s p (Extends-trans _ _ _ (Extends-formula (formula_numbered terms p) q) x))
    (formula_stands (formula_numbered terms p) all s q x)
formula_stands terms all s (equivalence p q) x =
    two_stand all (literals_of both p) (literals_of both q) (formula_stands terms all both p (Extends-trans _ _ _ (Extends-formula (formula_numbered terms p) q) x))
    (formula_stands (formula_numbered terms p) all both q x)

extends_each : (terms : List Sum) (ps : List Formula) → Extends terms (each_numbered terms ps)
extends_each terms [] = Extends-refl terms
extends_each terms (p ∷ ps) = Extends-trans _ _ _ (Extends-formula terms p) (extends_each (formula_numbered terms p) ps)

each_stands : (terms all : List Sum) (ps : List Formula) → Extends (each_numbered terms ps) all → All (Stand all) (each_literals ps)
each_stands terms all [] x = All-nil (Stand all)
each_stands terms all (p ∷ ps) x =
    two_stand all (literals_of positive p) (each_literals ps)
    (formula_stands terms all positive p (Extends-trans _ _ _ (extends_each (formula_numbered terms p) ps) x))
    (each_stands (formula_numbered terms p) all ps x)

-- ---- the operands of applications

abbrev OperandsStand : List Sum → Sum → Type 0
OperandsStand all (mul a b) = Stands all a × Stands all b
OperandsStand all (div a b) = Stands all a × Stands all b
OperandsStand all (rem a b) = Stands all a × Stands all b
OperandsStand all (whole n) = Unit {0}
OperandsStand all (var x) = Unit {0}
OperandsStand all (neg a) = Unit {0}
OperandsStand all (add a b) = Unit {0}
OperandsStand all (sub a b) = Unit {0}
OperandsStand all (len a) = Unit {0}
OperandsStand all (measure f a) = Unit {0}

-- those of each term of the list stand in the whole one
abbrev AreClosed : List Sum → List Sum → Type 0
AreClosed all l = (t : Sum) → has_term l t ≡ true → OperandsStand all t

put_closed : (all l : List Sum) (t : Sum) → AreClosed all l → OperandsStand all t → AreClosed all (with_term l t)
put_closed all l t h o x there = elim (added l t x there) [ inl k ↦ h x k | inr e ↦ subst (OperandsStand all) (sym e) o ]

two_closed : (all l : List Sum) (a b : Sum) → Extends (numbered (numbered l a) b) all → Stands all a × Stands all b
two_closed all l a b x = (stands_numbered l all a (Extends-trans _ _ _ (Extends-numbered (numbered l a) b) x), stands_numbered (numbered l a) all b x)

numbered_closed : (all l : List Sum) (s : Sum) → Extends (numbered l s) all → AreClosed all l → AreClosed all (numbered l s)
numbered_closed all l (whole n) x h = h
numbered_closed all l (var y) x h = put_closed all l (var y) h tt
numbered_closed all l (neg a) x h = numbered_closed all l a x h
numbered_closed all l (add a b) x h =
    numbered_closed all (numbered l a) b x (numbered_closed all l a (Extends-trans _ _ _ (Extends-numbered (numbered l a) b) x) h)
numbered_closed all l (sub a b) x h =
    numbered_closed all (numbered l a) b x (numbered_closed all l a (Extends-trans _ _ _ (Extends-numbered (numbered l a) b) x) h)
numbered_closed all l (mul a b) x h =
    by (literal_of a) (literal_of b) x
    (λ y. numbered_closed all (numbered l a) b y (numbered_closed all l a (Extends-trans _ _ _ (Extends-numbered (numbered l a) b) y) h))
  where
    by : (o p : Option ℤ) → Extends (by_factors o p (numbered (numbered l a) b) (with_term (numbered (numbered l a) b) (mul a b))) all
        → (Extends (numbered (numbered l a) b) all → AreClosed all (numbered (numbered l a) b))
        → AreClosed all (by_factors o p (numbered (numbered l a) b) (with_term (numbered (numbered l a) b) (mul a b)))
    by (Some n) p y f = f y
    by None (Some n) y f = f y
    by None None y f =
        let z = Extends-trans _ _ _ (Extends-with_term (numbered (numbered l a) b) (mul a b)) y in
        put_closed all (numbered (numbered l a) b) (mul a b) (f z) (two_closed all l a b z)
numbered_closed all l (div a b) x h =
    let z = Extends-trans _ _ _ (Extends-with_term (numbered (numbered l a) b) (div a b)) x in
    put_closed all (numbered (numbered l a) b) (div a b)
    (numbered_closed all (numbered l a) b z (numbered_closed all l a (Extends-trans _ _ _ (Extends-numbered (numbered l a) b) z) h)) (two_closed all l a b z)
numbered_closed all l (rem a b) x h =
    let z = Extends-trans _ _ _ (Extends-with_term (numbered (numbered l a) b) (rem a b)) x in
    put_closed all (numbered (numbered l a) b) (rem a b)
    (numbered_closed all (numbered l a) b z (numbered_closed all l a (Extends-trans _ _ _ (Extends-numbered (numbered l a) b) z) h)) (two_closed all l a b z)
numbered_closed all l (len a) x h = put_closed all l (len a) h tt
numbered_closed all l (measure f a) x h = put_closed all l (measure f a) h tt

formula_closed : (all l : List Sum) (p : Formula) → Extends (formula_numbered l p) all → AreClosed all l → AreClosed all (formula_numbered l p)
formula_closed all l truth x h = h
formula_closed all l falsity x h = h
formula_closed all l (flag y) x h = h
formula_closed all l (compare o a b) x h =
    numbered_closed all (numbered l a) b x (numbered_closed all l a (Extends-trans _ _ _ (Extends-numbered (numbered l a) b) x) h)
formula_closed all l (objects a b) x h = h
formula_closed all l (negation p) x h = formula_closed all l p x h
formula_closed all l (conjunction p q) x h =
    formula_closed all (formula_numbered l p) q x (formula_closed all l p (Extends-trans _ _ _ (Extends-formula (formula_numbered l p) q) x) h)
formula_closed all l (disjunction p q) x h =
    formula_closed all (formula_numbered l p) q x (formula_closed all l p (Extends-trans _ _ _ (Extends-formula (formula_numbered l p) q) x) h)
formula_closed all l (equivalence p q) x h =
    formula_closed all (formula_numbered l p) q x (formula_closed all l p (Extends-trans _ _ _ (Extends-formula (formula_numbered l p) q) x) h)

each_closed : (all l : List Sum) (ps : List Formula) → Extends (each_numbered l ps) all → AreClosed all l → AreClosed all (each_numbered l ps)
each_closed all l [] x h = h
each_closed all l (p ∷ ps) x h =
    each_closed all (formula_numbered l p) ps x (formula_closed all l p (Extends-trans _ _ _ (extends_each (formula_numbered l p) ps) x) h)

terms_closed : (i : ClosedImplication) → AreClosed (terms_in i) (terms_in i)
terms_closed i =
    formula_closed (terms_in i) (each_numbered [] i.hypotheses) i.goal (Extends-refl (terms_in i))
    (each_closed (terms_in i) [] i.hypotheses (Extends-formula (each_numbered [] i.hypotheses) i.goal) (λ t h. absurd (cc)))

-- ---- the rows of two terms

product_stands : (all : List Sum) (a b : Sum) → AreNoLiterals a b → has_term all (mul a b) ≡ true → Stands all (mul a b)
product_stands all a b h there =
    subst (λ x. OnLiterals x (literal_of b) (Stands all a × Stands all b) (has_term all (mul a b) ≡ true)) (sym h.0)
    (subst (λ y. OnLiterals None y (Stands all a × Stands all b) (has_term all (mul a b) ≡ true)) (sym h.1) there)

condition_stands : (all : List Sum) (s a b t c d : Sum) → Stands all s → Stands all a × Stands all b → Stands all t → Stands all c × Stands all d
    → All (Stand all) (condition_rows s a b t c d)
condition_stands all s a b t c d ps p qs q =
    let r5 : List Comparison = below_row b d ∷ (below_row d b ∷ []) in
    let r4 : List Comparison = below_row c a ∷ r5 in
    let r3 : List Comparison = below_row a c ∷ r4 in
    let r2 : List Comparison = equal_row s t ∷ r3 in
    let r1 : List Comparison = equal_row b d ∷ r2 in
    All-cons (Stand all) (equal_row a c) r1 (sides all a c (pos 0) true p.0 q.0)
    (All-cons (Stand all) (equal_row b d) r2 (sides all b d (pos 0) true p.1 q.1)
    (All-cons (Stand all) (equal_row s t) r3 (sides all s t (pos 0) true ps qs)
    (All-cons (Stand all) (below_row a c) r4 (sides all a c (pos 1) false p.0 q.0)
    (All-cons (Stand all) (below_row c a) r5 (sides all c a (pos 1) false q.0 p.0)
    (two all (below_row b d) (below_row d b) (sides all b d (pos 1) false p.1 q.1) (sides all d b (pos 1) false q.1 p.1))))))

measure_stands : (all : List Sum) (s t : Sum) (e : Bool) → Stands all s → Stands all t → All (Stand all) (if e then equal_row s t ∷ [] else [])
measure_stands all s t true p q = one all _ (sides all s t (pos 0) true p q)
measure_stands all s t false p q = All-nil (Stand all)

module _ (all : List Sum) (plain : (t : Sum) → has_term all t ≡ true → IsPlain t) (closed : AreClosed all all) where
  pair_stands : (s t : Sum) → has_term all s ≡ true → has_term all t ≡ true → All (Stand all) (pair_rows s t)
  pair_stands (mul a b) (mul c d) p q =
      condition_stands all (mul a b) a b (mul c d) c d (product_stands all a b (plain (mul a b) p) p) (closed (mul a b) p)
      (product_stands all c d (plain (mul c d) q) q) (closed (mul c d) q)
  pair_stands (mul a b) _ p q = All-nil (Stand all)
  pair_stands (div a b) (div c d) p q = condition_stands all (div a b) a b (div c d) c d p (closed (div a b) p) q (closed (div c d) q)
  pair_stands (div a b) _ p q = All-nil (Stand all)
  pair_stands (rem a b) (rem c d) p q = condition_stands all (rem a b) a b (rem c d) c d p (closed (rem a b) p) q (closed (rem c d) q)
  pair_stands (rem a b) _ p q = All-nil (Stand all)
  pair_stands (len a) (len b) p q = one all _ (sides all (len a) (len b) (pos 0) true p q)
  pair_stands (len a) _ p q = All-nil (Stand all)
  pair_stands (measure f a) (measure g b) p q = measure_stands all (measure f a) (measure g b) (f.0 == g.0) p q
  pair_stands (measure f a) _ p q = All-nil (Stand all)
  pair_stands (whole n) _ p q = All-nil (Stand all)
  pair_stands (var x) _ p q = All-nil (Stand all)
  pair_stands (neg a) _ p q = All-nil (Stand all)
  pair_stands (add a b) _ p q = All-nil (Stand all)
  pair_stands (sub a b) _ p q = All-nil (Stand all)

  rows_stand : (s : Sum) → has_term all s ≡ true → (ts : List Sum) → ((t : Sum) → has_term ts t ≡ true → has_term all t ≡ true) → All (Stand all) (rows_with s ts)
  rows_stand s p [] h = All-nil (Stand all)
  rows_stand s p (t ∷ ts) h =
      two_stand all (pair_rows s t) (rows_with s ts) (pair_stands s t p (h t (has_term-here t ts)))
      (rows_stand s p ts (λ x k. h x (or_right (same x t) (has_term ts x) k)))

  pairs_stand : (ts : List Sum) → ((t : Sum) → has_term ts t ≡ true → has_term all t ≡ true) → All (Stand all) (all_pairs ts)
  pairs_stand [] h = All-nil (Stand all)
  pairs_stand (s ∷ ts) h =
      two_stand all (rows_with s ts) (all_pairs ts)
      (rows_stand s (h s (has_term-here s ts)) ts (λ x k. h x (or_right (same x s) (has_term ts x) k)))
      (pairs_stand ts (λ x k. h x (or_right (same x s) (has_term ts x) k)))

-- ---- all of them

pub literals_stand : (i : ClosedImplication) → All (Stand (terms_in i)) (implication_literals i)
literals_stand i =
    let all = terms_in i in
    two_stand all (each_literals i.hypotheses ++ literals_of negative i.goal) (all_pairs all)
    (two_stand all (each_literals i.hypotheses) (literals_of negative i.goal)
    (each_stands [] all i.hypotheses (Extends-formula (each_numbered [] i.hypotheses) i.goal))
    (formula_stands (each_numbered [] i.hypotheses) all negative i.goal (Extends-refl all)))
    (pairs_stand all (terms_plain i) (terms_closed i) all (λ t h. h))
