-- The literals and the pairs of narrow predicates.
use Rattle.std.proofs.Common.{◌≡◌, inl, inr, ℤ, pos, Bool, true, false, List, [], ◌∷◌, ◌++◌, Option, Some, None, All, arith, if◌then◌else◌, ◌==◌, refl, sym, subst}
use Rattle.std.proofs.lemmas.Bool.{or_cases, or_left, or_right}
use Rattle.std.proofs.lemmas.List.Elements.{All-append, All-cons, All-head, All-nil, All-tail}
use Rattle.lq_base_names.specs.declared.operation.CompareOp.{CompareOp}
use Rattle.lq_base_names.specs.declared.operation.CompareOp.TheVariants as op
use Rattle.lq_logic_predicates.specs.ClosedImplication.{ClosedImplication, each_numbered, terms_in}
use Rattle.lq_logic_predicates.specs.Comparison.{CanGather, Comparison}
use Rattle.lq_logic_predicates.specs.Formula.{Formula, truth, falsity, flag, compare, objects, negation, conjunction, disjunction, equivalence}
use Rattle.lq_logic_predicates.specs.Literals.{Signs, positive, negative, both, all_pairs, comparisons_of, condition_rows, each_literals, below_row, equal_row, implication_literals, literals_of, opposite, pair_rows, rows_with}
use Rattle.lq_logic_predicates.specs.Numbering.{has_term-here}
use Rattle.lq_logic_predicates.specs.Reading.{comparison_reading, formula_numbered}
use Rattle.lq_logic_predicates.specs.SameLaws.{same-is}
use Rattle.lq_logic_predicates.specs.Sum.{Sum, whole, var, neg, add, sub, mul, div, rem, len, measure, same}
use Rattle.lq_logic_predicates.specs.Table.{by_factors, has_term, literal_of, numbered, with_term}
use Rattle.lq_solve_strongest.specs.SmallForms.Narrow.{HasSmallArguments, IsNarrow, IsSmall, product_size, sum_size}
use Rattle.lq_solve_strongest.proofs.SmallFormsLemmas.Fits.{small_gather}

one : (c : Comparison) → CanGather c → All CanGather (c ∷ [])
one c h = All-cons CanGather c [] h (All-nil CanGather)

two : (c d : Comparison) → CanGather c → CanGather d → All CanGather (c ∷ (d ∷ []))
two c d h k = All-cons CanGather c (d ∷ []) h (one d k)

-- ---- literals

sign_gathers : (sign : Bool) (o : CompareOp) (a b : Sum) → IsSmall a → IsSmall b → All CanGather (comparisons_of (comparison_reading sign o a b))
sign_gathers true op.Eq a b h k = one _ (small_gather a b (pos 0) true h k (omega arith))
sign_gathers true op.Ne a b h k = two _ _ (small_gather a b (pos 1) false h k (omega arith)) (small_gather b a (pos 1) false k h (omega arith))
sign_gathers true op.Lt a b h k = one _ (small_gather a b (pos 1) false h k (omega arith))
sign_gathers true op.Le a b h k = one _ (small_gather a b (pos 0) false h k (omega arith))
sign_gathers true op.Gt a b h k = one _ (small_gather b a (pos 1) false k h (omega arith))
sign_gathers true op.Ge a b h k = one _ (small_gather b a (pos 0) false k h (omega arith))
sign_gathers false op.Eq a b h k = two _ _ (small_gather a b (pos 1) false h k (omega arith)) (small_gather b a (pos 1) false k h (omega arith))
sign_gathers false op.Ne a b h k = one _ (small_gather a b (pos 0) true h k (omega arith))
sign_gathers false op.Lt a b h k = one _ (small_gather b a (pos 0) false k h (omega arith))
sign_gathers false op.Le a b h k = one _ (small_gather b a (pos 1) false k h (omega arith))
sign_gathers false op.Gt a b h k = one _ (small_gather a b (pos 0) false h k (omega arith))
sign_gathers false op.Ge a b h k = one _ (small_gather a b (pos 1) false h k (omega arith))

compare_gathers : (s : Signs) (o : CompareOp) (a b : Sum) → IsSmall a → IsSmall b → All CanGather (literals_of s (compare o a b))
compare_gathers positive o a b h k = sign_gathers true o a b h k
compare_gathers negative o a b h k = sign_gathers false o a b h k
compare_gathers both o a b h k =
    All-append CanGather (comparisons_of (comparison_reading true o a b)) (comparisons_of (comparison_reading false o a b)) (sign_gathers true o a b h k) (sign_gathers false o a b h k)

pub literals_gather : (s : Signs) (p : Formula) → IsNarrow p → All CanGather (literals_of s p)
literals_gather s truth h = All-nil CanGather
literals_gather s falsity h = All-nil CanGather
literals_gather s (flag x) h = All-nil CanGather
literals_gather s (compare o a b) h = compare_gathers s o a b h.2 h.3
literals_gather s (objects a b) h = All-nil CanGather
literals_gather s (negation p) h = literals_gather (opposite s) p h
literals_gather s (conjunction p q) h = All-append CanGather (literals_of s p) (literals_of s q) (literals_gather s p h.0) (literals_gather s q h.1)
literals_gather s (disjunction p q) h = All-append CanGather (literals_of s p) (literals_of s q) (literals_gather s p h.0) (literals_gather s q h.1)
literals_gather s (equivalence p q) h =
    All-append CanGather (literals_of both p) (literals_of both q) (literals_gather both p h.0) (literals_gather both q h.1)

each_gathers : (ps : List Formula) → All IsNarrow ps → All CanGather (each_literals ps)
each_gathers [] h = All-nil CanGather
each_gathers (p ∷ ps) h =
    All-append CanGather (literals_of positive p) (each_literals ps) (literals_gather positive p (All-head IsNarrow p ps h)) (each_gathers ps (All-tail IsNarrow p ps h))

-- ---- terms

-- a term of which two are compared only with small sums on both sides
abbrev HasSmall : Sum → Type 0
HasSmall (mul a b) = IsSmall (mul a b) × IsSmall a × IsSmall b
HasSmall (div a b) = IsSmall (div a b) × IsSmall a × IsSmall b
HasSmall (rem a b) = IsSmall (rem a b) × IsSmall a × IsSmall b
HasSmall (len a) = Unit {0}
HasSmall (measure f a) = Unit {0}
HasSmall (whole n) = Unit {0}
HasSmall (var x) = Unit {0}
HasSmall (neg a) = Unit {0}
HasSmall (add a b) = Unit {0}
HasSmall (sub a b) = Unit {0}

abbrev AllSmall : List Sum → Type 0
AllSmall ts = (x : Sum) → has_term ts x ≡ true → HasSmall x

added_small : (ts : List Sum) (t : Sum) → HasSmall t → AllSmall ts → AllSmall (with_term ts t)
added_small ts t n h = by (has_term ts t)
  where
    last : (l : List Sum) → AllSmall l → AllSmall (l ++ t ∷ [])
    last [] f x e = elim (or_cases (same x t) false e) [ inl k ↦ subst HasSmall (sym (same-is x t k)) n | inr k ↦ absurd (cc) ]
    last (u ∷ l) f x e =
        elim (or_cases (same x u) (has_term (l ++ t ∷ []) x) e) [
          | inl k ↦ f x (or_left (same x u) (has_term l x) k)
          | inr k ↦ last l (λ y d. f y (or_right (same y u) (has_term l y) d)) x k
        ]

    by : (b : Bool) → AllSmall (if b then ts else ts ++ t ∷ [])
    by true = h
    by false = last ts h

-- a product that is a term has no literal factor
product_small : (o q : Option ℤ) (ts : List Sum) (a b : Sum) → o ≡ literal_of a → q ≡ literal_of b → IsSmall a → IsSmall b → AllSmall ts → AllSmall (by_factors o q ts (with_term ts (mul a b)))
product_small (Some n) q ts a b e f h k s = s
product_small None (Some n) ts a b e f h k s = s
product_small None None ts a b e f h k s = added_small ts (mul a b) (small, h, k) s
  where
    is : sum_size (mul a b) ≡ 1
    is = subst (λ o. product_size o (literal_of b) (sum_size a) (sum_size b) ≡ 1) e (subst (λ q. product_size None q (sum_size a) (sum_size b) ≡ 1) f refl)

    small : IsSmall (mul a b)
    small = omega (arith, is)

sum_small : (ts : List Sum) (s : Sum) → HasSmallArguments s → AllSmall ts → AllSmall (numbered ts s)
sum_small ts (whole n) h f = f
sum_small ts (var x) h f = added_small ts (var x) tt f
sum_small ts (neg a) h f = sum_small ts a h f
sum_small ts (add a b) h f = sum_small (numbered ts a) b h.1 (sum_small ts a h.0 f)
sum_small ts (sub a b) h f = sum_small (numbered ts a) b h.1 (sum_small ts a h.0 f)
sum_small ts (mul a b) h f =
    product_small (literal_of a) (literal_of b) (numbered (numbered ts a) b) a b refl refl h.2 h.3 (sum_small (numbered ts a) b h.1 (sum_small ts a h.0 f))
sum_small ts (div a b) h f = added_small (numbered (numbered ts a) b) (div a b) (omega arith, h.2, h.3) (sum_small (numbered ts a) b h.1 (sum_small ts a h.0 f))
sum_small ts (rem a b) h f = added_small (numbered (numbered ts a) b) (rem a b) (omega arith, h.2, h.3) (sum_small (numbered ts a) b h.1 (sum_small ts a h.0 f))
sum_small ts (len a) h f = added_small ts (len a) tt f
sum_small ts (measure g a) h f = added_small ts (measure g a) tt f

formula_small : (ts : List Sum) (p : Formula) → IsNarrow p → AllSmall ts → AllSmall (formula_numbered ts p)
formula_small ts truth h f = f
formula_small ts falsity h f = f
formula_small ts (flag x) h f = f
formula_small ts (compare o a b) h f = sum_small (numbered ts a) b h.1 (sum_small ts a h.0 f)
formula_small ts (objects a b) h f = f
formula_small ts (negation p) h f = formula_small ts p h f
formula_small ts (conjunction p q) h f = formula_small (formula_numbered ts p) q h.1 (formula_small ts p h.0 f)
formula_small ts (disjunction p q) h f = formula_small (formula_numbered ts p) q h.1 (formula_small ts p h.0 f)
formula_small ts (equivalence p q) h f = formula_small (formula_numbered ts p) q h.1 (formula_small ts p h.0 f)

each_small : (ts : List Sum) (ps : List Formula) → All IsNarrow ps → AllSmall ts → AllSmall (each_numbered ts ps)
each_small ts [] h f = f
each_small ts (p ∷ ps) h f = each_small (formula_numbered ts p) ps (All-tail IsNarrow p ps h) (formula_small ts p (All-head IsNarrow p ps h) f)

-- ---- pairs

one_small : (s : Sum) → sum_size s ≡ 1 → IsSmall s
one_small s e = omega (arith, e)

equals : (a b : Sum) → IsSmall a → IsSmall b → CanGather (equal_row a b)
equals a b h k = small_gather a b (pos 0) true h k (omega arith)

below : (a b : Sum) → IsSmall a → IsSmall b → CanGather (below_row a b)
below a b h k = small_gather a b (pos 1) false h k (omega arith)

next : (c : Comparison) (cs : List Comparison) → CanGather c → All CanGather cs → All CanGather (c ∷ cs)
next c cs h k = All-cons CanGather c cs h k

conditions : (s a b t c d : Sum) → IsSmall s → IsSmall a → IsSmall b → IsSmall t → IsSmall c → IsSmall d → All CanGather (condition_rows s a b t c d)
conditions s a b t c d hs ha hb ht hc hd =
    let last : List Comparison = below_row b d ∷ (below_row d b ∷ []) in
    let fifth : List Comparison = below_row c a ∷ last in
    let fourth : List Comparison = below_row a c ∷ fifth in
    let third : List Comparison = equal_row s t ∷ fourth in
    let second : List Comparison = equal_row b d ∷ third in
    next (equal_row a c) second (equals a c ha hc)
    (next (equal_row b d) third (equals b d hb hd)
    (next (equal_row s t) fourth (equals s t hs ht)
    (next (below_row a c) fifth (below a c ha hc) (next (below_row c a) last (below c a hc ha) (two (below_row b d) (below_row d b) (below b d hb hd) (below d b hd hb))))))

pair_gathers : (s t : Sum) → HasSmall s → HasSmall t → All CanGather (pair_rows s t)
pair_gathers (mul a b) (mul c d) h k = conditions (mul a b) a b (mul c d) c d h.0 h.1 h.2 k.0 k.1 k.2
pair_gathers (div a b) (div c d) h k = conditions (div a b) a b (div c d) c d h.0 h.1 h.2 k.0 k.1 k.2
pair_gathers (rem a b) (rem c d) h k = conditions (rem a b) a b (rem c d) c d h.0 h.1 h.2 k.0 k.1 k.2
pair_gathers (len a) (len b) h k = one _ (equals (len a) (len b) (one_small (len a) refl) (one_small (len b) refl))
pair_gathers (measure f a) (measure g b) h k = by (f.0 == g.0)
  where
    by : (b' : Bool) → All CanGather (if b' then equal_row (measure f a) (measure g b) ∷ [] else [])
    by true = one _ (equals (measure f a) (measure g b) (one_small (measure f a) refl) (one_small (measure g b) refl))
    by false = All-nil CanGather
pair_gathers (mul a b) _ h k = All-nil CanGather
pair_gathers (div a b) _ h k = All-nil CanGather
pair_gathers (rem a b) _ h k = All-nil CanGather
pair_gathers (len a) _ h k = All-nil CanGather
pair_gathers (measure f a) _ h k = All-nil CanGather
pair_gathers (whole n) _ h k = All-nil CanGather
pair_gathers (var x) _ h k = All-nil CanGather
pair_gathers (neg a) _ h k = All-nil CanGather
pair_gathers (add a b) _ h k = All-nil CanGather
pair_gathers (sub a b) _ h k = All-nil CanGather

later : (t : Sum) (ts : List Sum) → AllSmall (t ∷ ts) → AllSmall ts
later t ts h x e = h x (or_right (same x t) (has_term ts x) e)

rows_gather : (s : Sum) (ts : List Sum) → HasSmall s → AllSmall ts → All CanGather (rows_with s ts)
rows_gather s [] n h = All-nil CanGather
rows_gather s (t ∷ ts) n h =
    All-append CanGather (pair_rows s t) (rows_with s ts) (pair_gathers s t n (h t (has_term-here t ts))) (rows_gather s ts n (later t ts h))

pairs_gather : (ts : List Sum) → AllSmall ts → All CanGather (all_pairs ts)
pairs_gather [] h = All-nil CanGather
pairs_gather (t ∷ ts) h = All-append CanGather (rows_with t ts) (all_pairs ts) (rows_gather t ts (h t (has_term-here t ts)) (later t ts h)) (pairs_gather ts (later t ts h))

pub narrow_gathers : (i : ClosedImplication) → All IsNarrow i.hypotheses → IsNarrow i.goal → All CanGather (implication_literals i)
narrow_gathers i h g =
    All-append CanGather (each_literals i.hypotheses ++ literals_of negative i.goal) (all_pairs (terms_in i))
    (All-append CanGather (each_literals i.hypotheses) (literals_of negative i.goal) (each_gathers i.hypotheses h) (literals_gather negative i.goal g))
    (pairs_gather (terms_in i) (formula_small (each_numbered [] i.hypotheses) i.goal g (each_small [] i.hypotheses h (λ x e. absurd (cc)))))
