-- The terms of an implication have no product with a literal.
use Rattle.std.proofs.Common.{◌≡◌, ◌⊎◌, inl, inr, ℤ, List, [], ◌∷◌, ◌++◌, Bool, true, false, ◌||◌, Option, Some, None, refl, sym, subst, if◌then◌else◌}
use Rattle.std.proofs.lemmas.Bool.{or_cases, or_left, or_right}
use Rattle.lq_prover_proof_tree.specs.Trees.Proves.{AreNoLiterals}
use Rattle.lq_logic_predicates.specs.ClosedImplication.{ClosedImplication, each_numbered, terms_in}
use Rattle.lq_logic_predicates.specs.Formula.{Formula, truth, falsity, flag, compare, objects, negation, conjunction, disjunction, equivalence}
use Rattle.lq_logic_predicates.specs.Reading.{formula_numbered}
use Rattle.lq_logic_predicates.specs.SameLaws.{same-is}
use Rattle.lq_logic_predicates.specs.Sum.{Sum, whole, var, neg, add, sub, mul, div, rem, len, measure, same}
use Rattle.lq_logic_predicates.specs.Table.{by_factors, has_term, literal_of, numbered, with_term}

abbrev pub IsPlain : Sum → Type 0
IsPlain (mul a b) = AreNoLiterals a b
IsPlain (whole n) = Unit {0}
IsPlain (var x) = Unit {0}
IsPlain (neg a) = Unit {0}
IsPlain (add a b) = Unit {0}
IsPlain (sub a b) = Unit {0}
IsPlain (div a b) = Unit {0}
IsPlain (rem a b) = Unit {0}
IsPlain (len a) = Unit {0}
IsPlain (measure f a) = Unit {0}

abbrev AllPlain : List Sum → Type 0
AllPlain l = (t : Sum) → has_term l t ≡ true → IsPlain t

has_push : (l : List Sum) (t u : Sum) → has_term (l ++ t ∷ []) u ≡ true → (has_term l u ≡ true) ⊎ (u ≡ t)
has_push [] t u h = by (or_cases (same u t) false h)
  where
    by : (same u t ≡ true) ⊎ (false ≡ true) → (false ≡ true) ⊎ (u ≡ t)
    by (inl e) = inr (same-is u t e)
    by (inr e) = inl e
has_push (w ∷ l) t u h = by (or_cases (same u w) (has_term (l ++ t ∷ []) u) h) (has_push l t u)
  where
    rest : (has_term l u ≡ true) ⊎ (u ≡ t) → ((same u w || has_term l u) ≡ true) ⊎ (u ≡ t)
    rest (inl e) = inl (or_right (same u w) (has_term l u) e)
    rest (inr e) = inr e

    by : (same u w ≡ true) ⊎ (has_term (l ++ t ∷ []) u ≡ true) → (has_term (l ++ t ∷ []) u ≡ true → (has_term l u ≡ true) ⊎ (u ≡ t))
        → ((same u w || has_term l u) ≡ true) ⊎ (u ≡ t)
    by (inl e) f = inl (or_left (same u w) (has_term l u) e)
    by (inr e) f = rest (f e)

put_plain : (l : List Sum) (t : Sum) → AllPlain l → IsPlain t → AllPlain (with_term l t)
put_plain l t h i u = by (has_term l t)
  where
    one : (has_term l u ≡ true) ⊎ (u ≡ t) → IsPlain u
    one (inl e) = h u e
    one (inr e) = subst IsPlain (sym e) i

    by : (b : Bool) → has_term (if b then l else l ++ t ∷ []) u ≡ true → IsPlain u
    by true e = h u e
    by false e = one (has_push l t u e)

numbered_plain : (l : List Sum) (s : Sum) → AllPlain l → AllPlain (numbered l s)
numbered_plain l (whole n) h = h
numbered_plain l (var x) h = put_plain l (var x) h tt
numbered_plain l (neg a) h = numbered_plain l a h
numbered_plain l (add a b) h = numbered_plain (numbered l a) b (numbered_plain l a h)
numbered_plain l (sub a b) h = numbered_plain (numbered l a) b (numbered_plain l a h)
numbered_plain l (mul a b) h = by (literal_of a) (literal_of b) refl refl (numbered_plain (numbered l a) b (numbered_plain l a h))
  where
    by : (o p : Option ℤ) → literal_of a ≡ o → literal_of b ≡ p → AllPlain (numbered (numbered l a) b)
        → AllPlain (by_factors o p (numbered (numbered l a) b) (with_term (numbered (numbered l a) b) (mul a b)))
    by (Some n) p e f k = k
    by None (Some n) e f k = k
    by None None e f k = put_plain (numbered (numbered l a) b) (mul a b) k (e, f)
numbered_plain l (div a b) h = put_plain (numbered (numbered l a) b) (div a b) (numbered_plain (numbered l a) b (numbered_plain l a h)) tt
numbered_plain l (rem a b) h = put_plain (numbered (numbered l a) b) (rem a b) (numbered_plain (numbered l a) b (numbered_plain l a h)) tt
numbered_plain l (len a) h = put_plain l (len a) h tt
numbered_plain l (measure f a) h = put_plain l (measure f a) h tt

formula_plain : (l : List Sum) (p : Formula) → AllPlain l → AllPlain (formula_numbered l p)
formula_plain l truth h = h
formula_plain l falsity h = h
formula_plain l (flag x) h = h
formula_plain l (compare o a b) h = numbered_plain (numbered l a) b (numbered_plain l a h)
formula_plain l (objects a b) h = h
formula_plain l (negation p) h = formula_plain l p h
formula_plain l (conjunction p q) h = formula_plain (formula_numbered l p) q (formula_plain l p h)
formula_plain l (disjunction p q) h = formula_plain (formula_numbered l p) q (formula_plain l p h)
formula_plain l (equivalence p q) h = formula_plain (formula_numbered l p) q (formula_plain l p h)

each_plain : (l : List Sum) (ps : List Formula) → AllPlain l → AllPlain (each_numbered l ps)
each_plain l [] h = h
each_plain l (p ∷ ps) h = each_plain (formula_numbered l p) ps (formula_plain l p h)

nothing_plain : AllPlain []
nothing_plain t h = cc

pub terms_plain : (i : ClosedImplication) (t : Sum) → has_term (terms_in i) t ≡ true → IsPlain t
terms_plain i = formula_plain (each_numbered [] i.hypotheses) i.goal (each_plain [] i.hypotheses nothing_plain)
