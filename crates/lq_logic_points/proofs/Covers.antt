-- Lists that have every term of an implication, and of its arguments.
use Rattle.std.proofs.Common.{◌≡◌, ℕ, zero, suc, ◌<◌, ℤ, List, [], ◌∷◌, ◌++◌, Bool, true, false, Option, Some, None, get_or, length, map, refl, sym, ap, subst, ◌∙◌, arith, if◌then◌else◌, ◌||◌}
use Rattle.std.proofs.lemmas.Bool.{or_left, or_right}
use Rattle.lq_logic_predicates.specs.Sum.{Sum, whole, var, neg, add, sub, mul, div, rem, len, measure, same}
use Rattle.lq_logic_predicates.specs.SameLaws.{same-is}
use Rattle.lq_logic_predicates.specs.Table.{has_term, with_term, numbered, literal_of, by_factors, Extends}
use Rattle.lq_logic_predicates.specs.Numbering.{has_term-append, has_term-with_term, with_term-present, slice_get-has_term}
use Rattle.lq_logic_predicates.specs.Growing.{Extends-refl, Extends-trans, Extends-with_term}
use Rattle.lq_logic_predicates.specs.Again.{Extends-numbered, numbered_again, Extends-formula}
use Rattle.lq_logic_predicates.specs.Formula.{Formula, truth, falsity, flag, compare, objects, negation, conjunction, disjunction, equivalence}
use Rattle.lq_logic_predicates.specs.Reading.{formula_numbered}
use Rattle.lq_logic_predicates.specs.ClosedImplication.{ClosedImplication, each_numbered, terms_in}
use Rattle.lq_logic_predicates.specs.PredView.{formula_of}
use Rattle.lq_logic_predicates.specs.declared.pred.Pred.{Pred}
use Rattle.lq_logic_points.specs.Arguments.{HasArguments}
use Rattle.lq_logic_points.specs.Agreeing.{HasAllArguments}

-- the list l has every term of the list m
abbrev pub Covers : List Sum → List Sum → Type 0
Covers l m = (t : Sum) → has_term m t ≡ true → has_term l t ≡ true

covers_less : (l old new : List Sum) → Extends old new → Covers l new → Covers l old
covers_less l old new x h t k = h t (ap (λ m. has_term m t) x.is ∙ has_term-append old x.more t k)

-- ---- nothing is added to a list that covers
two_covered : (f g : List Sum → List Sum) (l : List Sum) → f l ≡ l → g l ≡ l → g (f l) ≡ l
two_covered f g l p q = ap g p ∙ q

put_covered : (m l : List Sum) (t : Sum) → Covers l (with_term m t) → with_term l t ≡ l
put_covered m l t h = with_term-present l t (h t (has_term-with_term m t))

three_covered : (f g : List Sum → List Sum) (l : List Sum) (t : Sum) → f l ≡ l → g l ≡ l → with_term l t ≡ l → with_term (g (f l)) t ≡ l
three_covered f g l t p q r = ap (λ k. with_term k t) (two_covered f g l p q) ∙ r

pub numbered_covered : (m l : List Sum) (s : Sum) → Covers l (numbered m s) → numbered l s ≡ l
numbered_covered m l (whole n) h = refl
numbered_covered m l (var x) h = put_covered m l (var x) h
numbered_covered m l (neg a) h = numbered_covered m l a h
numbered_covered m l (add a b) h =
    two_covered (λ k. numbered k a) (λ k. numbered k b) l (numbered_covered m l a (covers_less l (numbered m a) _ (Extends-numbered (numbered m a) b) h)) (numbered_covered (numbered m a) l b h)
numbered_covered m l (sub a b) h =
    two_covered (λ k. numbered k a) (λ k. numbered k b) l (numbered_covered m l a (covers_less l (numbered m a) _ (Extends-numbered (numbered m a) b) h)) (numbered_covered (numbered m a) l b h)
numbered_covered m l (mul a b) h =
    by (literal_of a) (literal_of b) h (λ k. numbered_covered m l a (covers_less l (numbered m a) (numbered (numbered m a) b) (Extends-numbered (numbered m a) b) k)) (numbered_covered (numbered m a) l b)
  where
    by : (o p : Option ℤ) → Covers l (by_factors o p (numbered (numbered m a) b) (with_term (numbered (numbered m a) b) (mul a b)))
        → (Covers l (numbered (numbered m a) b) → numbered l a ≡ l) → (Covers l (numbered (numbered m a) b) → numbered l b ≡ l)
        → by_factors o p (numbered (numbered l a) b) (with_term (numbered (numbered l a) b) (mul a b)) ≡ l
    by (Some n) p k f g = two_covered (λ k. numbered k a) (λ k. numbered k b) l (f k) (g k)
    by None (Some n) k f g = two_covered (λ k. numbered k a) (λ k. numbered k b) l (f k) (g k)
    by None None k f g =
        let inner = covers_less l (numbered (numbered m a) b) (with_term (numbered (numbered m a) b) (mul a b)) (Extends-with_term (numbered (numbered m a) b) (mul a b)) k in
        three_covered (λ k. numbered k a) (λ k. numbered k b) l (mul a b) (f inner) (g inner) (put_covered (numbered (numbered m a) b) l (mul a b) k)
numbered_covered m l (div a b) h =
    let inner = covers_less l (numbered (numbered m a) b) (with_term (numbered (numbered m a) b) (div a b)) (Extends-with_term (numbered (numbered m a) b) (div a b)) h in
    three_covered (λ k. numbered k a) (λ k. numbered k b) l (div a b)
    (numbered_covered m l a (covers_less l (numbered m a) (numbered (numbered m a) b) (Extends-numbered (numbered m a) b) inner)) (numbered_covered (numbered m a) l b inner)
    (put_covered (numbered (numbered m a) b) l (div a b) h)
numbered_covered m l (rem a b) h =
    let inner = covers_less l (numbered (numbered m a) b) (with_term (numbered (numbered m a) b) (rem a b)) (Extends-with_term (numbered (numbered m a) b) (rem a b)) h in
    three_covered (λ k. numbered k a) (λ k. numbered k b) l (rem a b)
    (numbered_covered m l a (covers_less l (numbered m a) (numbered (numbered m a) b) (Extends-numbered (numbered m a) b) inner)) (numbered_covered (numbered m a) l b inner)
    (put_covered (numbered (numbered m a) b) l (rem a b) h)
numbered_covered m l (len a) h = put_covered m l (len a) h
numbered_covered m l (measure f a) h = put_covered m l (measure f a) h

pub formula_covered : (m l : List Sum) (p : Formula) → Covers l (formula_numbered m p) → formula_numbered l p ≡ l
formula_covered m l truth h = refl
formula_covered m l falsity h = refl
formula_covered m l (flag x) h = refl
formula_covered m l (compare o a b) h =
    two_covered (λ k. numbered k a) (λ k. numbered k b) l (numbered_covered m l a (covers_less l (numbered m a) (numbered (numbered m a) b) (Extends-numbered (numbered m a) b) h)) (numbered_covered (numbered m a) l b h)
formula_covered m l (objects a b) h = refl
formula_covered m l (negation p) h = formula_covered m l p h
formula_covered m l (conjunction p q) h =
    two_covered (λ k. formula_numbered k p) (λ k. formula_numbered k q) l
    (formula_covered m l p (covers_less l (formula_numbered m p) (formula_numbered (formula_numbered m p) q) (Extends-formula (formula_numbered m p) q) h)) (formula_covered (formula_numbered m p) l q h)
formula_covered m l (disjunction p q) h =
    two_covered (λ k. formula_numbered k p) (λ k. formula_numbered k q) l
    (formula_covered m l p (covers_less l (formula_numbered m p) (formula_numbered (formula_numbered m p) q) (Extends-formula (formula_numbered m p) q) h)) (formula_covered (formula_numbered m p) l q h)
formula_covered m l (equivalence p q) h =
    two_covered (λ k. formula_numbered k p) (λ k. formula_numbered k q) l
    (formula_covered m l p (covers_less l (formula_numbered m p) (formula_numbered (formula_numbered m p) q) (Extends-formula (formula_numbered m p) q) h)) (formula_covered (formula_numbered m p) l q h)

Extends-each : (m : List Sum) (ps : List Formula) → Extends m (each_numbered m ps)
Extends-each m [] = Extends-refl m
Extends-each m (p ∷ ps) = Extends-trans _ _ _ (Extends-formula m p) (Extends-each (formula_numbered m p) ps)

each_covered : (m l : List Sum) (preds : List Pred) → Covers l (each_numbered m (map formula_of preds)) → (k : ℕ) (d : Pred) → k < length preds → formula_numbered l (formula_of (get_or preds k d)) ≡ l
each_covered m l [] h k d w = absurd (omega (arith, w))
each_covered m l (p ∷ preds) h zero d w =
    formula_covered m l (formula_of p) (covers_less l (formula_numbered m (formula_of p)) (each_numbered (formula_numbered m (formula_of p)) (map formula_of preds)) (Extends-each (formula_numbered m (formula_of p)) (map formula_of preds)) h)
each_covered m l (p ∷ preds) h (suc k) d w = each_covered (formula_numbered m (formula_of p)) l preds h k d (omega (arith, w))

-- the hypotheses and the goal of an implication
pub hypotheses_covered : (l : List Sum) (preds : List Pred) (g : Formula) → Covers l (terms_in (record { hypotheses = map formula_of preds; goal = g }))
    → (k : ℕ) (d : Pred) → k < length preds → formula_numbered l (formula_of (get_or preds k d)) ≡ l
hypotheses_covered l preds g h =
    each_covered [] l preds (covers_less l (each_numbered [] (map formula_of preds)) (formula_numbered (each_numbered [] (map formula_of preds)) g) (Extends-formula (each_numbered [] (map formula_of preds)) g) h)

pub goal_covered : (l : List Sum) (i : ClosedImplication) → Covers l (terms_in i) → formula_numbered l i.goal ≡ l
goal_covered l i h = formula_covered (each_numbered [] i.hypotheses) l i.goal h

-- ---- lists that have the arguments of their terms
IsClosed : List Sum → Type 0
IsClosed l = (t : Sum) → has_term l t ≡ true → HasArguments l t

-- what a longer list keeps
again : (l k : List Sum) (s : Sum) → Extends l k → numbered l s ≡ l → numbered k s ≡ k
again l k s x e = numbered_again l k s (subst (λ m. Extends m k) (sym e) x)

arguments_grow : (l k : List Sum) (t : Sum) → Extends l k → HasArguments l t → HasArguments k t
arguments_grow l k (mul a b) x h = (again l k a x h.0, again l k b x h.1)
arguments_grow l k (div a b) x h = (again l k a x h.0, again l k b x h.1)
arguments_grow l k (rem a b) x h = (again l k a x h.0, again l k b x h.1)
arguments_grow l k (whole n) x h = tt
arguments_grow l k (var y) x h = tt
arguments_grow l k (neg a) x h = tt
arguments_grow l k (add a b) x h = tt
arguments_grow l k (sub a b) x h = tt
arguments_grow l k (len a) x h = tt
arguments_grow l k (measure f a) x h = tt

has_term-push_cases : (l : List Sum) (t u : Sum) → has_term (l ++ t ∷ []) u ≡ true → (b : Bool) → has_term l u ≡ b → (b ≡ true → ⊥) → u ≡ t
has_term-push_cases [] t u h b e n = by (same u t) refl h
  where
    by : (c : Bool) → same u t ≡ c → (c || false) ≡ true → u ≡ t
    by true k r = same-is u t k
    by false k r = cc
has_term-push_cases (w ∷ l) t u h b e n = by (same u w) refl h (has_term-push_cases l t u)
  where
    by : (c : Bool) → same u w ≡ c → (c || has_term (l ++ t ∷ []) u) ≡ true
        → (has_term (l ++ t ∷ []) u ≡ true → (b : Bool) → has_term l u ≡ b → (b ≡ true → ⊥) → u ≡ t) → u ≡ t
    by true k r rest = absurd (n (sym e ∙ or_left (same u w) (has_term l u) k))
    by false k r rest = rest r (has_term l u) refl (λ z. n (sym e ∙ or_right (same u w) (has_term l u) z))

put_closed : (l : List Sum) (t : Sum) → IsClosed l → HasArguments (with_term l t) t → IsClosed (with_term l t)
unfolding IsClosed
put_closed l t h a u k = by (has_term l u) refl
  where
    there : (b : Bool) → has_term l t ≡ b → has_term (if b then l else l ++ t ∷ []) u ≡ true → (has_term l u ≡ true → ⊥) → u ≡ t
    there true e m n = absurd (n m)
    there false e m n = has_term-push_cases l t u m (has_term l u) refl n

    by : (b : Bool) → has_term l u ≡ b → HasArguments (with_term l t) u
    by true e = arguments_grow l (with_term l t) u (Extends-with_term l t) (h u e)
    by false e =
        let is : u ≡ t = there (has_term l t) refl k (λ z. let w = e in cc) in subst (HasArguments (with_term l t)) (sym is) a

-- the arguments of an application that was just put in
two_arguments : (l : List Sum) (a b t : Sum) → (numbered (with_term (numbered (numbered l a) b) t) a ≡ with_term (numbered (numbered l a) b) t)
    × (numbered (with_term (numbered (numbered l a) b) t) b ≡ with_term (numbered (numbered l a) b) t)
two_arguments l a b t = (
  numbered_again l (with_term (numbered (numbered l a) b) t) a (Extends-trans _ _ _ (Extends-numbered (numbered l a) b) (Extends-with_term (numbered (numbered l a) b) t)),
  numbered_again (numbered l a) (with_term (numbered (numbered l a) b) t) b (Extends-with_term (numbered (numbered l a) b) t),
)

closed_numbered : (l : List Sum) (s : Sum) → IsClosed l → IsClosed (numbered l s)
closed_numbered l (whole n) h = h
closed_numbered l (var x) h = put_closed l (var x) h tt
closed_numbered l (neg a) h = closed_numbered l a h
closed_numbered l (add a b) h = closed_numbered (numbered l a) b (closed_numbered l a h)
closed_numbered l (sub a b) h = closed_numbered (numbered l a) b (closed_numbered l a h)
closed_numbered l (mul a b) h = by (literal_of a) (literal_of b) (closed_numbered (numbered l a) b (closed_numbered l a h))
  where
    by : (o p : Option ℤ) → IsClosed (numbered (numbered l a) b) → IsClosed (by_factors o p (numbered (numbered l a) b) (with_term (numbered (numbered l a) b) (mul a b)))
    by (Some n) p k = k
    by None (Some n) k = k
    by None None k = put_closed (numbered (numbered l a) b) (mul a b) k (two_arguments l a b (mul a b))
closed_numbered l (div a b) h = put_closed (numbered (numbered l a) b) (div a b) (closed_numbered (numbered l a) b (closed_numbered l a h)) (two_arguments l a b (div a b))
closed_numbered l (rem a b) h = put_closed (numbered (numbered l a) b) (rem a b) (closed_numbered (numbered l a) b (closed_numbered l a h)) (two_arguments l a b (rem a b))
closed_numbered l (len a) h = put_closed l (len a) h tt
closed_numbered l (measure f a) h = put_closed l (measure f a) h tt

closed_formula : (l : List Sum) (p : Formula) → IsClosed l → IsClosed (formula_numbered l p)
closed_formula l truth h = h
closed_formula l falsity h = h
closed_formula l (flag x) h = h
closed_formula l (compare o a b) h = closed_numbered (numbered l a) b (closed_numbered l a h)
closed_formula l (objects a b) h = h
closed_formula l (negation p) h = closed_formula l p h
closed_formula l (conjunction p q) h = closed_formula (formula_numbered l p) q (closed_formula l p h)
closed_formula l (disjunction p q) h = closed_formula (formula_numbered l p) q (closed_formula l p h)
closed_formula l (equivalence p q) h = closed_formula (formula_numbered l p) q (closed_formula l p h)

closed_each : (l : List Sum) (ps : List Formula) → IsClosed l → IsClosed (each_numbered l ps)
closed_each l [] h = h
closed_each l (p ∷ ps) h = closed_each (formula_numbered l p) ps (closed_formula l p h)

closed_nothing : IsClosed []
unfolding IsClosed
closed_nothing t h = cc

closed_terms : (i : ClosedImplication) → IsClosed (terms_in i)
closed_terms i = closed_formula (each_numbered [] i.hypotheses) i.goal (closed_each [] i.hypotheses closed_nothing)

covered_arguments : (l m : List Sum) (t : Sum) → Covers l m → HasArguments m t → HasArguments l t
covered_arguments l m (mul a b) c h = (argument a h.0, argument b h.1)
  where
    argument : (s : Sum) → numbered m s ≡ m → numbered l s ≡ l
    argument s e = numbered_covered m l s (subst (Covers l) (sym e) c)
covered_arguments l m (div a b) c h = (argument a h.0, argument b h.1)
  where
    argument : (s : Sum) → numbered m s ≡ m → numbered l s ≡ l
    argument s e = numbered_covered m l s (subst (Covers l) (sym e) c)
covered_arguments l m (rem a b) c h = (argument a h.0, argument b h.1)
  where
    argument : (s : Sum) → numbered m s ≡ m → numbered l s ≡ l
    argument s e = numbered_covered m l s (subst (Covers l) (sym e) c)
covered_arguments l m (whole n) c h = tt
covered_arguments l m (var y) c h = tt
covered_arguments l m (neg a) c h = tt
covered_arguments l m (add a b) c h = tt
covered_arguments l m (sub a b) c h = tt
covered_arguments l m (len a) c h = tt
covered_arguments l m (measure f a) c h = tt

pub all_arguments : (l : List Sum) (i : ClosedImplication) → Covers l (terms_in i) → HasAllArguments l (terms_in i)
unfolding IsClosed
all_arguments l i c k t e = covered_arguments l (terms_in i) t c (closed_terms i t (slice_get-has_term (terms_in i) k t e))
