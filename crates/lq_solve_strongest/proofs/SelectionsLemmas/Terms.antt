-- The terms of fewer predicates, and the pairs of terms.
use Rattle.std.proofs.Common.{◌≡◌, ◌⊎◌, inl, inr, ℤ, Bool, true, false, not, ◌||◌, List, [], ◌∷◌, ◌++◌, Option, Some, None, All, if◌then◌else◌, refl, sym, ap, subst, ◌∙◌}
use Rattle.std.proofs.lemmas.Bool.{and_parts, not-true, or_cases, or_left, or_right}
use Rattle.std.proofs.lemmas.List.Elements.{All-append, All-nil}
use Rattle.lq_prover_case.proofs.EquationsLemmas.Plain.{IsPlain}
use Rattle.lq_prover_proof_tree.proofs.LiteralsLemmas.Fits.{all_left, all_right}
use Rattle.lq_refined_types.proofs.PartsLemmas.Flows.{Sublist, drop, keep, nil}
use Rattle.lq_refined_types.specs.Parts.Assignment.{all_joined, joined}
use Rattle.lq_logic_predicates.specs.Again.{Extends-formula}
use Rattle.lq_logic_predicates.specs.ClosedImplication.{each_numbered}
use Rattle.lq_logic_predicates.specs.Comparison.{Comparison}
use Rattle.lq_logic_predicates.specs.Formula.{Formula, truth, falsity, flag, compare, objects, negation, conjunction, disjunction, equivalence}
use Rattle.lq_logic_predicates.specs.Growing.{Extends-with_term}
use Rattle.lq_logic_predicates.specs.Literals.{all_pairs, pair_rows, rows_with}
use Rattle.lq_logic_predicates.specs.Numbering.{has_term-append, has_term-here, has_term-with_term}
use Rattle.lq_logic_predicates.specs.Reading.{formula_numbered}
use Rattle.lq_logic_predicates.specs.SameLaws.{same-is, same-refl}
use Rattle.lq_logic_predicates.specs.Sum.{Sum, whole, var, neg, add, sub, mul, div, rem, len, measure, same}
use Rattle.lq_logic_predicates.specs.Table.{Extends, all_differ, by_factors, has_term, literal_of, numbered, with_term}

-- each term of the one list is in the other
abbrev pub Under : List Sum → List Sum → Type 0
Under ts us = (x : Sum) → has_term ts x ≡ true → has_term us x ≡ true

grown : (ts us : List Sum) → Extends ts us → Under ts us
grown ts us e x h = subst (λ l. has_term l x ≡ true) (sym e.is) (has_term-append ts e.more x h)

pub added : (ts : List Sum) (t x : Sum) → has_term (with_term ts t) x ≡ true → (has_term ts x ≡ true) ⊎ (x ≡ t)
added ts t x = by (has_term ts t)
  where
    last : (l : List Sum) → has_term (l ++ t ∷ []) x ≡ true → (has_term l x ≡ true) ⊎ (x ≡ t)
    last [] h = elim (or_cases (same x t) false h) [ inl e ↦ inr (same-is x t e) | inr e ↦ inl e ]
    last (u ∷ l) h = step (or_cases (same x u) (has_term (l ++ t ∷ []) x) h) (last l)
      where
        step : (same x u ≡ true) ⊎ (has_term (l ++ t ∷ []) x ≡ true) → (has_term (l ++ t ∷ []) x ≡ true → (has_term l x ≡ true) ⊎ (x ≡ t))
            → ((same x u || has_term l x) ≡ true) ⊎ (x ≡ t)
        step (inl e) f = inl (or_left (same x u) (has_term l x) e)
        step (inr e) f = elim (f e) [ inl g ↦ inl (or_right (same x u) (has_term l x) g) | inr g ↦ inr g ]

    by : (b : Bool) → has_term (if b then ts else ts ++ t ∷ []) x ≡ true → (has_term ts x ≡ true) ⊎ (x ≡ t)
    by true h = inl h
    by false h = last ts h

term_under : (ts us : List Sum) (t : Sum) → Under ts us → Under (with_term ts t) (with_term us t)
term_under ts us t f x h = by (added ts t x h)
  where
    by : (has_term ts x ≡ true) ⊎ (x ≡ t) → has_term (with_term us t) x ≡ true
    by (inl k) = grown us (with_term us t) (Extends-with_term us t) x (f x k)
    by (inr e) = subst (λ y. has_term (with_term us t) y ≡ true) (sym e) (has_term-with_term us t)

factors_under : (o q : Option ℤ) (ts us : List Sum) (t : Sum) → Under ts us → Under (by_factors o q ts (with_term ts t)) (by_factors o q us (with_term us t))
factors_under (Some n) q ts us t f = f
factors_under None (Some n) ts us t f = f
factors_under None None ts us t f = term_under ts us t f

sum_under : (ts us : List Sum) (s : Sum) → Under ts us → Under (numbered ts s) (numbered us s)
sum_under ts us (whole n) f = f
sum_under ts us (var x) f = term_under ts us (var x) f
sum_under ts us (neg a) f = sum_under ts us a f
sum_under ts us (add a b) f = sum_under (numbered ts a) (numbered us a) b (sum_under ts us a f)
sum_under ts us (sub a b) f = sum_under (numbered ts a) (numbered us a) b (sum_under ts us a f)
sum_under ts us (mul a b) f =
    factors_under (literal_of a) (literal_of b) (numbered (numbered ts a) b) (numbered (numbered us a) b) (mul a b)
    (sum_under (numbered ts a) (numbered us a) b (sum_under ts us a f))
sum_under ts us (div a b) f =
    term_under (numbered (numbered ts a) b) (numbered (numbered us a) b) (div a b) (sum_under (numbered ts a) (numbered us a) b (sum_under ts us a f))
sum_under ts us (rem a b) f =
    term_under (numbered (numbered ts a) b) (numbered (numbered us a) b) (rem a b) (sum_under (numbered ts a) (numbered us a) b (sum_under ts us a f))
sum_under ts us (len a) f = term_under ts us (len a) f
sum_under ts us (measure g a) f = term_under ts us (measure g a) f

formula_under : (ts us : List Sum) (q : Formula) → Under ts us → Under (formula_numbered ts q) (formula_numbered us q)
formula_under ts us truth f = f
formula_under ts us falsity f = f
formula_under ts us (flag x) f = f
formula_under ts us (compare o a b) f = sum_under (numbered ts a) (numbered us a) b (sum_under ts us a f)
formula_under ts us (objects a b) f = f
formula_under ts us (negation p) f = formula_under ts us p f
formula_under ts us (conjunction p q) f = formula_under (formula_numbered ts p) (formula_numbered us p) q (formula_under ts us p f)
formula_under ts us (disjunction p q) f = formula_under (formula_numbered ts p) (formula_numbered us p) q (formula_under ts us p f)
formula_under ts us (equivalence p q) f = formula_under (formula_numbered ts p) (formula_numbered us p) q (formula_under ts us p f)

pub each_under : (ps qs : List Formula) → Sublist ps qs → (ts us : List Sum) → Under ts us → Under (each_numbered ts ps) (each_numbered us qs)
each_under _ _ nil ts us f = f
each_under _ _ (drop {ps = ps} {qs = qs} {q = q} s) ts us f =
    each_under ps qs s ts (formula_numbered us q) (λ x h. grown us (formula_numbered us q) (Extends-formula us q) x (f x h))
each_under _ _ (keep {ps = ps} {qs = qs} {q = q} s) ts us f =
    each_under ps qs s (formula_numbered ts q) (formula_numbered us q) (formula_under ts us q f)

joined_terms : (ts : List Sum) (p : Formula) (qs : List Formula) → formula_numbered ts (joined p qs) ≡ each_numbered (formula_numbered ts p) qs
joined_terms ts p [] = refl
joined_terms ts p (q ∷ qs) = joined_terms ts (conjunction p q) qs

pub all_joined_terms : (ts : List Sum) (qs : List Formula) → formula_numbered ts (all_joined qs) ≡ each_numbered ts qs
all_joined_terms ts [] = refl
all_joined_terms ts (q ∷ qs) = joined_terms ts q qs

-- ---- pairs

-- of the rows of each two terms of a list that differ P holds
abbrev pub EachPair : (Comparison → Type 0) → List Sum → Type 0
EachPair P ts = (s t : Sum) → has_term ts s ≡ true → has_term ts t ≡ true → same s t ≡ false → All P (pair_rows s t)

-- what holds of the rows of two terms holds of them the other way round
abbrev pub Turns : (Comparison → Type 0) → Type 0
Turns P = (s t : Sum) → IsPlain s → IsPlain t → All P (pair_rows s t) → All P (pair_rows t s)

row_of : (P : Comparison → Type 0) (s : Sum) (ts : List Sum) → All P (rows_with s ts) → (t : Sum) → has_term ts t ≡ true → All P (pair_rows s t)
row_of P s [] h t e = absurd (cc)
row_of P s (u ∷ ts) h t e = by (or_cases (same t u) (has_term ts t) e) (row_of P s ts (all_right P (pair_rows s u) (rows_with s ts) h) t)
  where
    by : (same t u ≡ true) ⊎ (has_term ts t ≡ true) → (has_term ts t ≡ true → All P (pair_rows s t)) → All P (pair_rows s t)
    by (inl k) f = subst (λ x. All P (pair_rows s x)) (sym (same-is t u k)) (all_left P (pair_rows s u) (rows_with s ts) h)
    by (inr k) f = f k

pub pairs_each : (P : Comparison → Type 0) → Turns P → (ts : List Sum) → ((t : Sum) → has_term ts t ≡ true → IsPlain t) → All P (all_pairs ts) → EachPair P ts
pairs_each P turns [] plain h s t e f n = absurd (cc)
pairs_each P turns (u ∷ ts) plain h s t e f n =
    by (or_cases (same s u) (has_term ts s) e) (or_cases (same t u) (has_term ts t) f)
    (pairs_each P turns ts (λ x k. plain x (or_right (same x u) (has_term ts x) k)) (all_right P (rows_with u ts) (all_pairs ts) h))
  where
    rows : (x : Sum) → has_term ts x ≡ true → All P (pair_rows u x)
    rows = row_of P u ts (all_left P (rows_with u ts) (all_pairs ts) h)

    by : (same s u ≡ true) ⊎ (has_term ts s ≡ true) → (same t u ≡ true) ⊎ (has_term ts t ≡ true) → EachPair P ts → All P (pair_rows s t)
    by (inl p) (inl q) g =
        let a : s ≡ u = same-is s u p in
        let b : t ≡ u = same-is t u q in
        let r : same s t ≡ true = ap (λ x. same x t) a ∙ ap (same u) b ∙ same-refl u in absurd (cc)
    by (inl p) (inr q) g = subst (λ x. All P (pair_rows x t)) (sym (same-is s u p)) (rows t q)
    by (inr p) (inl q) g =
        subst (λ x. All P (pair_rows s x)) (sym (same-is t u q))
        (turns u s (plain u (has_term-here u ts)) (plain s (or_right (same s u) (has_term ts s) p)) (rows s p))
    by (inr p) (inr q) g = g s t p q n

rows_each : (P : Comparison → Type 0) (u : Sum) (ts : List Sum) → ((t : Sum) → has_term ts t ≡ true → All P (pair_rows u t)) → All P (rows_with u ts)
rows_each P u [] h = All-nil P
rows_each P u (t ∷ ts) h =
    All-append P (pair_rows u t) (rows_with u ts) (h t (has_term-here t ts)) (rows_each P u ts (λ x k. h x (or_right (same x t) (has_term ts x) k)))

pub each_pairs : (P : Comparison → Type 0) (ts : List Sum) → all_differ ts ≡ true → EachPair P ts → All P (all_pairs ts)
each_pairs P [] d h = All-nil P
each_pairs P (u ∷ ts) d h =
    All-append P (rows_with u ts) (all_pairs ts)
    (rows_each P u ts (λ t k. h u t (has_term-here u ts) (or_right (same t u) (has_term ts t) k) (differs t k)))
    (each_pairs P ts parts.1 (λ s t e f n. h s t (or_right (same s u) (has_term ts s) e) (or_right (same t u) (has_term ts t) f) n))
  where
    parts : (not (has_term ts u) ≡ true) × (all_differ ts ≡ true)
    parts = and_parts (not (has_term ts u)) (all_differ ts) d

    differs : (t : Sum) → has_term ts t ≡ true → same u t ≡ false
    differs t k = by (same u t) refl
      where
        by : (b : Bool) → same u t ≡ b → b ≡ false
        by true e =
            let is : u ≡ t = same-is u t e in
            let no : has_term ts u ≡ false = not-true (has_term ts u) parts.0 in
            let yes : has_term ts u ≡ true = ap (has_term ts) is ∙ k in absurd (cc)
        by false e = refl
