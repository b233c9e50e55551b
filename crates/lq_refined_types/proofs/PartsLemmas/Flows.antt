-- The union of two selections that make all flows valid makes them valid.
use Rattle.std.proofs.Common.{◌≡◌, ◌⊎◌, inl, inr, ℕ, ℤ, zero, suc, ◌+◌, ◌<◌, ◌≤◌, length, slice_get, arith, Bool, true, false, cond, List, [], ◌∷◌, ◌++◌, map, Option, Some, None, if◌then◌else◌, ◌||◌, refl, sym, ap, subst}
use Rattle.lq_logic_predicates.specs.Sum.{Sum, whole, var, neg, add, sub, mul, div, rem, len, measure, same}
use Rattle.lq_logic_predicates.specs.SameLaws.{same-is}
use Rattle.lq_logic_predicates.specs.Numbering.{has_term-append, has_term-with_term}
use Rattle.lq_logic_predicates.specs.Growing.{Extends-with_term}
use Rattle.lq_logic_predicates.specs.Table.{has_term, with_term, literal_of, by_factors, numbered}
use Rattle.lq_logic_predicates.specs.Formula.{Formula, truth, falsity, flag, compare, objects, negation, conjunction, disjunction, equivalence}
use Rattle.lq_logic_predicates.specs.Reading.{reading_of, formula_numbered}
use Rattle.lq_logic_predicates.specs.Points.{Point, Meets}
use Rattle.lq_logic_predicates.specs.ClosedImplication.{each_numbered, IsPoint, MeetsEach, IsValid}
use Rattle.lq_refined_types.specs.Parts.Assignment.{Assignment, parts_under, joined, all_joined, Implied}
use Rattle.lq_refined_types.specs.Parts.Part.{Part, known, unknown, Parts}
use Rattle.lq_refined_types.specs.Parts.Substitution.{Subst, formula_by}
use Rattle.lq_refined_types.specs.Parts.Constraint.{Constraint, IsMet, AllMet, IfFlow, FlowsMet, IsFirstFailing}
use Rattle.lq_refined_types.specs.Parts.Flowing.{Selection, picked, assigned, united, IsWithin, IsFlowing, IsStrongest, Decides, HoldsEach}

-- each term of the one is a term of the other
abbrev Under : List Sum → List Sum → Type 0
Under ts us = (x : Sum) → has_term ts x ≡ true → has_term us x ≡ true

pub data Sublist : List Formula → List Formula → Type 0 where
  nil : Sublist [] []
  drop : {ps qs : List Formula} {q : Formula} → Sublist ps qs → Sublist ps (q ∷ qs)
  keep : {ps qs : List Formula} {q : Formula} → Sublist ps qs → Sublist (q ∷ ps) (q ∷ qs)

grown : (ts : List Sum) (t : Sum) → Under ts (with_term ts t)
grown ts t x h =
    let e = Extends-with_term ts t in subst (λ l. has_term l x ≡ true) (sym e.is) (has_term-append ts e.more x h)

last_term : (ts : List Sum) (t x : Sum) → has_term (ts ++ t ∷ []) x ≡ true → (has_term ts x ≡ true) ⊎ (same x t ≡ true)
last_term [] t x h = by (same x t) refl h
  where
    by : (b : Bool) → same x t ≡ b → (b || false) ≡ true → (false ≡ true) ⊎ (same x t ≡ true)
    by true e h = inr e
    by false e h = absurd (cc)
last_term (u ∷ ts) t x h = by (same x u) (last_term ts t x) h
  where
    by : (b : Bool) → (has_term (ts ++ t ∷ []) x ≡ true → (has_term ts x ≡ true) ⊎ (same x t ≡ true)) → (b || has_term (ts ++ t ∷ []) x) ≡ true → ((b || has_term ts x) ≡ true) ⊎ (same x t ≡ true)
    by true f h = inl refl
    by false f h = f h

with_term_parts : (ts : List Sum) (t x : Sum) → has_term (with_term ts t) x ≡ true → (has_term ts x ≡ true) ⊎ (same x t ≡ true)
with_term_parts ts t x h = by (has_term ts t) h
  where
    by : (b : Bool) → has_term (if b then ts else ts ++ t ∷ []) x ≡ true → (has_term ts x ≡ true) ⊎ (same x t ≡ true)
    by true h = inl h
    by false h = last_term ts t x h

mono_term : (ts us : List Sum) (t : Sum) → Under ts us → Under (with_term ts t) (with_term us t)
mono_term ts us t f x h = by (with_term_parts ts t x h)
  where
    by : (has_term ts x ≡ true) ⊎ (same x t ≡ true) → has_term (with_term us t) x ≡ true
    by (inl k) = let g : Under us (with_term us t) = grown us t in g x (f x k)
    by (inr e) = subst (λ y. has_term (with_term us t) y ≡ true) (sym (same-is x t e)) (has_term-with_term us t)

trans : (ts us vs : List Sum) → Under ts us → Under us vs → Under ts vs
trans ts us vs f g x h = g x (f x h)

self : (ts : List Sum) → Under ts ts
self ts x h = h

grown_factors : (o q : Option ℤ) (ts us : List Sum) (t : Sum) → Under ts us → Under ts (by_factors o q us (with_term us t))
grown_factors (Some n) q ts us t f = f
grown_factors None (Some n) ts us t f = f
grown_factors None None ts us t f = trans ts us (with_term us t) f (grown us t)

grown_sum : (ts : List Sum) (s : Sum) → Under ts (numbered ts s)
grown_sum ts (whole n) = self ts
grown_sum ts (var x) = grown ts (var x)
grown_sum ts (neg a) = grown_sum ts a
grown_sum ts (add a b) =
    trans ts (numbered ts a) (numbered (numbered ts a) b) (grown_sum ts a) (grown_sum (numbered ts a) b)
grown_sum ts (sub a b) =
    trans ts (numbered ts a) (numbered (numbered ts a) b) (grown_sum ts a) (grown_sum (numbered ts a) b)
grown_sum ts (mul a b) =
    grown_factors (literal_of a) (literal_of b) ts (numbered (numbered ts a) b) (mul a b) (trans ts (numbered ts a) (numbered (numbered ts a) b) (grown_sum ts a) (grown_sum (numbered ts a) b))
grown_sum ts (div a b) =
    trans ts (numbered (numbered ts a) b) (with_term (numbered (numbered ts a) b) (div a b)) (trans ts (numbered ts a) (numbered (numbered ts a) b) (grown_sum ts a) (grown_sum (numbered ts a) b)) (grown (numbered (numbered ts a) b) (div a b))
grown_sum ts (rem a b) =
    trans ts (numbered (numbered ts a) b) (with_term (numbered (numbered ts a) b) (rem a b)) (trans ts (numbered ts a) (numbered (numbered ts a) b) (grown_sum ts a) (grown_sum (numbered ts a) b)) (grown (numbered (numbered ts a) b) (rem a b))
grown_sum ts (len a) = grown ts (len a)
grown_sum ts (measure f a) = grown ts (measure f a)

mono_factors : (o q : Option ℤ) (ts us : List Sum) (t : Sum) → Under ts us → Under (by_factors o q ts (with_term ts t)) (by_factors o q us (with_term us t))
mono_factors (Some n) q ts us t f = f
mono_factors None (Some n) ts us t f = f
mono_factors None None ts us t f = mono_term ts us t f

mono_sum : (ts us : List Sum) (s : Sum) → Under ts us → Under (numbered ts s) (numbered us s)
mono_sum ts us (whole n) f = f
mono_sum ts us (var x) f = mono_term ts us (var x) f
mono_sum ts us (neg a) f = mono_sum ts us a f
mono_sum ts us (add a b) f = mono_sum (numbered ts a) (numbered us a) b (mono_sum ts us a f)
mono_sum ts us (sub a b) f = mono_sum (numbered ts a) (numbered us a) b (mono_sum ts us a f)
mono_sum ts us (mul a b) f =
    mono_factors (literal_of a) (literal_of b) (numbered (numbered ts a) b) (numbered (numbered us a) b) (mul a b) (mono_sum (numbered ts a) (numbered us a) b (mono_sum ts us a f))
mono_sum ts us (div a b) f =
    mono_term (numbered (numbered ts a) b) (numbered (numbered us a) b) (div a b) (mono_sum (numbered ts a) (numbered us a) b (mono_sum ts us a f))
mono_sum ts us (rem a b) f =
    mono_term (numbered (numbered ts a) b) (numbered (numbered us a) b) (rem a b) (mono_sum (numbered ts a) (numbered us a) b (mono_sum ts us a f))
mono_sum ts us (len a) f = mono_term ts us (len a) f
mono_sum ts us (measure g a) f = mono_term ts us (measure g a) f

grown_formula : (ts : List Sum) (q : Formula) → Under ts (formula_numbered ts q)
grown_formula ts truth = self ts
grown_formula ts falsity = self ts
grown_formula ts (flag x) = self ts
grown_formula ts (compare o a b) =
    trans ts (numbered ts a) (numbered (numbered ts a) b) (grown_sum ts a) (grown_sum (numbered ts a) b)
grown_formula ts (objects a b) = self ts
grown_formula ts (negation p) = grown_formula ts p
grown_formula ts (conjunction p q) =
    trans ts (formula_numbered ts p) (formula_numbered (formula_numbered ts p) q) (grown_formula ts p) (grown_formula (formula_numbered ts p) q)
grown_formula ts (disjunction p q) =
    trans ts (formula_numbered ts p) (formula_numbered (formula_numbered ts p) q) (grown_formula ts p) (grown_formula (formula_numbered ts p) q)
grown_formula ts (equivalence p q) =
    trans ts (formula_numbered ts p) (formula_numbered (formula_numbered ts p) q) (grown_formula ts p) (grown_formula (formula_numbered ts p) q)

mono_formula : (ts us : List Sum) (q : Formula) → Under ts us → Under (formula_numbered ts q) (formula_numbered us q)
mono_formula ts us truth f = f
mono_formula ts us falsity f = f
mono_formula ts us (flag x) f = f
mono_formula ts us (compare o a b) f = mono_sum (numbered ts a) (numbered us a) b (mono_sum ts us a f)
mono_formula ts us (objects a b) f = f
mono_formula ts us (negation p) f = mono_formula ts us p f
mono_formula ts us (conjunction p q) f =
    mono_formula (formula_numbered ts p) (formula_numbered us p) q (mono_formula ts us p f)
mono_formula ts us (disjunction p q) f =
    mono_formula (formula_numbered ts p) (formula_numbered us p) q (mono_formula ts us p f)
mono_formula ts us (equivalence p q) f =
    mono_formula (formula_numbered ts p) (formula_numbered us p) q (mono_formula ts us p f)

each_under : (ps qs : List Formula) → Sublist ps qs → (ts us : List Sum) → Under ts us → Under (each_numbered ts ps) (each_numbered us qs)
each_under _ _ nil ts us f = f
each_under _ _ (drop {ps = ps} {qs = qs} {q = q} s) ts us f =
    each_under ps qs s ts (formula_numbered us q) (trans ts us (formula_numbered us q) f (grown_formula us q))
each_under _ _ (keep {ps = ps} {qs = qs} {q = q} s) ts us f =
    each_under ps qs s (formula_numbered ts q) (formula_numbered us q) (mono_formula ts us q f)

joined_terms : (ts : List Sum) (p : Formula) (qs : List Formula) → formula_numbered ts (joined p qs) ≡ each_numbered (formula_numbered ts p) qs
joined_terms ts p [] = refl
joined_terms ts p (q ∷ qs) = joined_terms ts (conjunction p q) qs

all_joined_terms : (ts : List Sum) (qs : List Formula) → formula_numbered ts (all_joined qs) ≡ each_numbered ts qs
all_joined_terms ts [] = refl
all_joined_terms ts (q ∷ qs) = joined_terms ts q qs

-- some negated reading is met
abbrev pub MeetsSome : Point → List Formula → Type 0
MeetsSome p [] = ⊥
MeetsSome p (q ∷ qs) = Meets p (reading_of false q) ⊎ MeetsSome p qs

some_of_joined : (p : Point) (a : Formula) (qs : List Formula) → Meets p (reading_of false (joined a qs)) → Meets p (reading_of false a) ⊎ MeetsSome p qs
some_of_joined p a [] m = inl m
some_of_joined p a (q ∷ qs) m = by (some_of_joined p (conjunction a q) qs m)
  where
    by : Meets p (reading_of false (conjunction a q)) ⊎ MeetsSome p qs → Meets p (reading_of false a) ⊎ MeetsSome p (q ∷ qs)
    by (inl (inl x)) = inl x
    by (inl (inr (inl y))) = inr (inl y)
    by (inl (inr (inr z))) = absurd z
    by (inr s) = inr (inr s)

joined_of_some : (p : Point) (a : Formula) (qs : List Formula) → Meets p (reading_of false a) ⊎ MeetsSome p qs → Meets p (reading_of false (joined a qs))
joined_of_some p a [] (inl x) = x
joined_of_some p a [] (inr s) = absurd s
joined_of_some p a (q ∷ qs) (inl x) = joined_of_some p (conjunction a q) qs (inl (inl x))
joined_of_some p a (q ∷ qs) (inr (inl y)) = joined_of_some p (conjunction a q) qs (inl (inr (inl y)))
joined_of_some p a (q ∷ qs) (inr (inr s)) = joined_of_some p (conjunction a q) qs (inr s)

pub some_of : (p : Point) (qs : List Formula) → Meets p (reading_of false (all_joined qs)) → MeetsSome p qs
some_of p [] m = m
some_of p (q ∷ qs) m = some_of_joined p q qs m

pub of_some : (p : Point) (qs : List Formula) → MeetsSome p qs → Meets p (reading_of false (all_joined qs))
of_some p [] s = s
of_some p (q ∷ qs) s = joined_of_some p q qs s

each_of : (p : Point) (ps qs : List Formula) → Sublist ps qs → MeetsEach p qs → MeetsEach p ps
each_of p _ _ nil m = tt
each_of p _ _ (drop {ps = ps} {qs = qs} s) m = each_of p ps qs s m.1
each_of p _ _ (keep {ps = ps} {qs = qs} s) m = (m.0, each_of p ps qs s m.1)

pub sub_self : (ps : List Formula) → Sublist ps ps
sub_self [] = nil
sub_self (p ∷ ps) = keep (sub_self ps)

sub_append : {ps qs ps' qs' : List Formula} → Sublist ps qs → Sublist ps' qs' → Sublist (ps ++ ps') (qs ++ qs')
sub_append nil t = t
sub_append (drop s) t = drop (sub_append s t)
sub_append (keep s) t = keep (sub_append s t)

-- an implication with fewer hypotheses and a goal of fewer instances, valid, and a point of the larger one that meets
-- the larger hypotheses meets each of the fewer instances
pub fewer : (hs ks gs fs : List Formula) → Sublist hs ks → Sublist gs fs → IsValid record { hypotheses = hs; goal = all_joined gs } → (p : Point) → IsPoint record { hypotheses = ks; goal = all_joined fs } p → MeetsEach p ks → MeetsSome p gs → ⊥
fewer hs ks gs fs s t v p is m g =
    v p (λ a b h k. is a b (more a h) (more b k)) (each_of p hs ks s m) (of_some p gs g)
  where
    more : (x : Sum) → has_term (formula_numbered (each_numbered [] hs) (all_joined gs)) x ≡ true → has_term (formula_numbered (each_numbered [] ks) (all_joined fs)) x ≡ true
    more x h =
        let f : Under (each_numbered (each_numbered [] hs) gs) (each_numbered (each_numbered [] ks) fs) = each_under gs fs t (each_numbered [] hs) (each_numbered [] ks) (each_under hs ks s [] [] (self [])) in
        subst (λ l. has_term l x ≡ true) (sym (all_joined_terms (each_numbered [] ks) fs)) (f x (subst (λ l. has_term l x ≡ true) (all_joined_terms (each_numbered [] hs) gs) h))

picked_left : (f g : ℕ → Bool) (σ : Subst) (k : ℕ) (ps : List Formula) → Sublist (map (formula_by σ) (picked f k ps)) (map (formula_by σ) (picked (λ n. f n || g n) k ps))
picked_left f g σ k [] = nil
picked_left f g σ k (p ∷ ps) = by (f k) (g k) (picked_left f g σ (suc k) ps)
  where
    by : (b c : Bool) → Sublist (map (formula_by σ) (picked f (suc k) ps)) (map (formula_by σ) (picked (λ n. f n || g n) (suc k) ps)) → Sublist (map (formula_by σ) (cond b (p ∷ picked f (suc k) ps) (picked f (suc k) ps))) (map (formula_by σ) (cond (b || c) (p ∷ picked (λ n. f n || g n) (suc k) ps) (picked (λ n. f n || g n) (suc k) ps)))
    by true c s = keep s
    by false true s = drop s
    by false false s = s

picked_right : (f g : ℕ → Bool) (σ : Subst) (k : ℕ) (ps : List Formula) → Sublist (map (formula_by σ) (picked g k ps)) (map (formula_by σ) (picked (λ n. f n || g n) k ps))
picked_right f g σ k [] = nil
picked_right f g σ k (p ∷ ps) = by (f k) (g k) (picked_right f g σ (suc k) ps)
  where
    by : (b c : Bool) → Sublist (map (formula_by σ) (picked g (suc k) ps)) (map (formula_by σ) (picked (λ n. f n || g n) (suc k) ps)) → Sublist (map (formula_by σ) (cond c (p ∷ picked g (suc k) ps) (picked g (suc k) ps))) (map (formula_by σ) (cond (b || c) (p ∷ picked (λ n. f n || g n) (suc k) ps) (picked (λ n. f n || g n) (suc k) ps)))
    by true true s = keep s
    by true false s = drop s
    by false true s = keep s
    by false false s = s

-- an instance of the union is one of either
picked_either : (p : Point) (f g : ℕ → Bool) (σ : Subst) (k : ℕ) (ps : List Formula) → MeetsSome p (map (formula_by σ) (picked (λ n. f n || g n) k ps)) → MeetsSome p (map (formula_by σ) (picked f k ps)) ⊎ MeetsSome p (map (formula_by σ) (picked g k ps))
picked_either p f g σ k [] m = inl m
picked_either p f g σ k (q ∷ ps) m = by (f k) (g k) (picked_either p f g σ (suc k) ps) m
  where
    by : (b c : Bool) → (MeetsSome p (map (formula_by σ) (picked (λ n. f n || g n) (suc k) ps)) → MeetsSome p (map (formula_by σ) (picked f (suc k) ps)) ⊎ MeetsSome p (map (formula_by σ) (picked g (suc k) ps))) → MeetsSome p (map (formula_by σ) (cond (b || c) (q ∷ picked (λ n. f n || g n) (suc k) ps) (picked (λ n. f n || g n) (suc k) ps))) → MeetsSome p (map (formula_by σ) (cond b (q ∷ picked f (suc k) ps) (picked f (suc k) ps))) ⊎ MeetsSome p (map (formula_by σ) (cond c (q ∷ picked g (suc k) ps) (picked g (suc k) ps)))
    by true true h (inl x) = inl (inl x)
    by true true h (inr m) = both (h m)
      where
        both : MeetsSome p (map (formula_by σ) (picked f (suc k) ps)) ⊎ MeetsSome p (map (formula_by σ) (picked g (suc k) ps)) → MeetsSome p (map (formula_by σ) (q ∷ picked f (suc k) ps)) ⊎ MeetsSome p (map (formula_by σ) (q ∷ picked g (suc k) ps))
        both (inl a) = inl (inr a)
        both (inr a) = inr (inr a)
    by true false h (inl x) = inl (inl x)
    by true false h (inr m) = left (h m)
      where
        left : MeetsSome p (map (formula_by σ) (picked f (suc k) ps)) ⊎ MeetsSome p (map (formula_by σ) (picked g (suc k) ps)) → MeetsSome p (map (formula_by σ) (q ∷ picked f (suc k) ps)) ⊎ MeetsSome p (map (formula_by σ) (picked g (suc k) ps))
        left (inl a) = inl (inr a)
        left (inr a) = inr a
    by false true h (inl x) = inr (inl x)
    by false true h (inr m) = right (h m)
      where
        right : MeetsSome p (map (formula_by σ) (picked f (suc k) ps)) ⊎ MeetsSome p (map (formula_by σ) (picked g (suc k) ps)) → MeetsSome p (map (formula_by σ) (picked f (suc k) ps)) ⊎ MeetsSome p (map (formula_by σ) (q ∷ picked g (suc k) ps))
        right (inl a) = inl a
        right (inr a) = inr (inr a)
    by false false h m = h m

module _ (I : ℕ → List Formula) (c d : Selection) where
  parts_left : (hs : Parts) → Sublist (parts_under (assigned I c) hs) (parts_under (assigned I (united c d)) hs)
  parts_left [] = nil
  parts_left (known p ∷ hs) = keep (parts_left hs)
  parts_left (unknown u σ ∷ hs) = sub_append (picked_left (c u) (d u) σ 0 (I u)) (parts_left hs)

  parts_right : (hs : Parts) → Sublist (parts_under (assigned I d) hs) (parts_under (assigned I (united c d)) hs)
  parts_right [] = nil
  parts_right (known p ∷ hs) = keep (parts_right hs)
  parts_right (unknown u σ ∷ hs) = sub_append (picked_right (c u) (d u) σ 0 (I u)) (parts_right hs)

  flow_union : (hs : Parts) (u : ℕ) (σ : Subst) → Implied (assigned I c) hs (unknown u σ) → Implied (assigned I d) hs (unknown u σ) → Implied (assigned I (united c d)) hs (unknown u σ)
  flow_union hs u σ v w p is m n =
      by (picked_either p (c u) (d u) σ 0 (I u) (some_of p (map (formula_by σ) (picked (united c d u) 0 (I u))) n))
    where
      by : MeetsSome p (map (formula_by σ) (picked (c u) 0 (I u))) ⊎ MeetsSome p (map (formula_by σ) (picked (d u) 0 (I u))) → ⊥
      by (inl s) =
          fewer (parts_under (assigned I c) hs) (parts_under (assigned I (united c d)) hs) (map (formula_by σ) (picked (c u) 0 (I u))) (map (formula_by σ) (picked (united c d u) 0 (I u))) (parts_left hs) (picked_left (c u) (d u) σ 0 (I u)) v p is m s
      by (inr s) =
          fewer (parts_under (assigned I d) hs) (parts_under (assigned I (united c d)) hs) (map (formula_by σ) (picked (d u) 0 (I u))) (map (formula_by σ) (picked (united c d u) 0 (I u))) (parts_right hs) (picked_right (c u) (d u) σ 0 (I u)) w p is m s

  part_union : (q : Part) (hs : Parts) → IfFlow q (Implied (assigned I c) hs q) → IfFlow q (Implied (assigned I d) hs q) → IfFlow q (Implied (assigned I (united c d)) hs q)
  part_union (known p) hs v w = tt
  part_union (unknown u σ) hs v w = flow_union hs u σ v w

pub flows_union : (I : ℕ → List Formula) (cs : List Constraint) (c d : Selection) → FlowsMet (assigned I c) cs → FlowsMet (assigned I d) cs → FlowsMet (assigned I (united c d)) cs
flows_union I [] c d v w = tt
flows_union I (k ∷ cs) c d v w =
    (part_union I c d k.goal (k.hypotheses) v.0 w.0, flows_union I cs c d v.1 w.1)

picked_none : (k : ℕ) (ps : List Formula) → picked (λ n. false) k ps ≡ []
picked_none k [] = refl
picked_none k (p ∷ ps) = picked_none (suc k) ps

abbrev the : {X : Type 0} → X → Option X → X
the a None = a
the a (Some x) = x

some_is : {X : Type 0} (a b : X) → Some a ≡ Some b → a ≡ b
some_is a b h = ap (the a) h

-- the selection of nothing makes all flows valid
flows_none : (I : ℕ → List Formula) (cs : List Constraint) → FlowsMet (assigned I (λ u k. false)) cs
flows_none I [] = tt
flows_none I (c ∷ cs) = (by c.goal (c.hypotheses), flows_none I cs)
  where
    by : (q : Part) (hs : Parts) → IfFlow q (Implied (assigned I (λ u k. false)) hs q)
    by (known p) hs = tt
    by (unknown u σ) hs = λ p is m n. some_none p (some_of p (map (formula_by σ) (picked (λ k. false) 0 (I u))) n)
      where
        some_none : (p : Point) → MeetsSome p (map (formula_by σ) (picked (λ k. false) 0 (I u))) → ⊥
        some_none p s = subst (λ l. MeetsSome p (map (formula_by σ) l)) (picked_none 0 (I u)) s

or_first : (a b : Bool) → a ≡ true → (a || b) ≡ true
or_first true b h = refl
or_first false b h = absurd (cc)

or_second : (a b : Bool) → b ≡ true → (a || b) ≡ true
or_second true b h = refl
or_second false b h = h

holds_more : (I : ℕ → List Formula) (cs : List Constraint) (c d : Selection) (ds : List Selection) → HoldsEach I cs c ds → HoldsEach I cs (united d c) ds
holds_more I cs c d [] h = tt
holds_more I cs c d (e ∷ ds) h = (λ m u k r x. or_second (d u k) (c u k) (h.0 m u k r x), holds_more I cs c d ds h.1)

pub largest : (I : ℕ → List Formula) (cs : List Constraint) → Decides I cs → (ds : List Selection) → (c : Selection) × FlowsMet (assigned I c) cs × HoldsEach I cs c ds
largest I cs decide [] = (λ u k. false, flows_none I cs, tt)
largest I cs decide (d ∷ ds) = by (largest I cs decide ds) (decide d)
  where
    by : ((c : Selection) × FlowsMet (assigned I c) cs × HoldsEach I cs c ds) → FlowsMet (assigned I d) cs ⊎ (FlowsMet (assigned I d) cs → ⊥) → (c : Selection) × FlowsMet (assigned I c) cs × HoldsEach I cs c (d ∷ ds)
    by r (inl m) =
        (united d r.0, flows_union I cs d r.0 m r.1, (λ m' u k w x. or_first (d u k) (r.0 u k) x, holds_more I cs r.0 d ds r.2))
    by r (inr n) = (r.0, r.1, (λ m. absurd (n m), r.2))

false_true : false ≡ true → ⊥
false_true h = cc

-- what is chosen of the instances from k on
pub picked_within : (f g : ℕ → Bool) (σ : Subst) (k : ℕ) (ps : List Formula) → ((n : ℕ) → k ≤ n → n < k + length ps → f n ≡ true → g n ≡ true)
    → Sublist (map (formula_by σ) (picked f k ps)) (map (formula_by σ) (picked g k ps))
picked_within f g σ k [] w = nil
picked_within f g σ k (p ∷ ps) w =
    by (f k) (g k) (w k (omega arith) (omega arith)) (picked_within f g σ (suc k) ps (λ n a b. w n (omega (arith, a)) (omega (arith, b))))
  where
    by : (b c : Bool) → (b ≡ true → c ≡ true) → Sublist (map (formula_by σ) (picked f (suc k) ps)) (map (formula_by σ) (picked g (suc k) ps)) → Sublist (map (formula_by σ) (cond b (p ∷ picked f (suc k) ps) (picked f (suc k) ps))) (map (formula_by σ) (cond c (p ∷ picked g (suc k) ps) (picked g (suc k) ps)))
    by true true h s = keep s
    by true false h s = absurd (false_true (h refl))
    by false true h s = drop s
    by false false h s = s

module _ (I : ℕ → List Formula) (d c : Selection) (within : IsWithin I d c) where
  pub parts_within : (hs : Parts) → Sublist (parts_under (assigned I d) hs) (parts_under (assigned I c) hs)
  parts_within [] = nil
  parts_within (known p ∷ hs) = keep (parts_within hs)
  parts_within (unknown u σ ∷ hs) = sub_append (picked_within (d u) (c u) σ 0 (I u) (λ n a b. within u n (omega (arith, b)))) (parts_within hs)

  -- a demand that is valid under fewer instances is valid under more
  demand_more : (hs : Parts) (q : Formula) → Implied (assigned I d) hs (known q) → Implied (assigned I c) hs (known q)
  demand_more hs q v p is m n = v p (λ a b h k. is a b (more a h) (more b k)) (each_of p (parts_under (assigned I d) hs) (parts_under (assigned I c) hs) s m) n
    where
      s : Sublist (parts_under (assigned I d) hs) (parts_under (assigned I c) hs)
      s = parts_within hs

      more : (x : Sum) → has_term (formula_numbered (each_numbered [] (parts_under (assigned I d) hs)) q) x ≡ true → has_term (formula_numbered (each_numbered [] (parts_under (assigned I c) hs)) q) x ≡ true
      more x h =
          mono_formula (each_numbered [] (parts_under (assigned I d) hs)) (each_numbered [] (parts_under (assigned I c) hs)) q (each_under (parts_under (assigned I d) hs) (parts_under (assigned I c) hs) s [] [] (self [])) x h

  part_more : (q : Part) (hs : Parts) → Implied (assigned I d) hs q → IfFlow q (Implied (assigned I c) hs q) → Implied (assigned I c) hs q
  part_more (known p) hs v w = demand_more hs p v
  part_more (unknown u σ) hs v w = w

  all_more : (cs : List Constraint) → AllMet (assigned I d) cs → FlowsMet (assigned I c) cs → AllMet (assigned I c) cs
  all_more [] m f = tt
  all_more (k ∷ cs) m f = (part_more k.goal (k.hypotheses) m.0 f.0, all_more cs m.1 f.1)

flow_of : (A : Assignment) (q : Part) (M : Type 0) → M → IfFlow q M
flow_of A (known p) M m = tt
flow_of A (unknown u σ) M m = m

flows_of : (A : Assignment) (cs : List Constraint) → AllMet A cs → FlowsMet A cs
flows_of A [] m = tt
flows_of A (c ∷ cs) m = (flow_of A c.goal (IsMet A c) m.0, flows_of A cs m.1)

all_of_flows : (I : ℕ → List Formula) (cs : List Constraint) (c d : Selection) → IsFlowing I cs c → AllMet (assigned I d) cs → AllMet (assigned I c) cs
all_of_flows I cs c d f m = all_more I d c (f.greatest d (flows_of (assigned I d) cs m)) cs m f.meets

pub flowing_is_strongest : (I : ℕ → List Formula) (cs : List Constraint) (c : Selection) → IsFlowing I cs c → AllMet (assigned I c) cs → IsStrongest I cs c
flowing_is_strongest I cs c f m = record { meets = m; greatest = λ d n. f.greatest d (flows_of (assigned I d) cs n) }

pub flowing_solves : (I : ℕ → List Formula) (cs : List Constraint) (c d : Selection) → IsFlowing I cs c → AllMet (assigned I d) cs → IsStrongest I cs c
flowing_solves I cs c d f m = flowing_is_strongest I cs c f (all_of_flows I cs c d f m)

met_at : (A : Assignment) (cs : List Constraint) (at : ℕ) (k : Constraint) → AllMet A cs → slice_get cs at ≡ Some k → IsMet A k
met_at A [] at k m e = absurd (cc)
met_at A (c ∷ cs) zero k m e = subst (IsMet A) (some_is c k e) m.0
met_at A (c ∷ cs) (suc at) k m e = met_at A cs at k m.1 e

pub failing_refutes : (I : ℕ → List Formula) (cs : List Constraint) (c d : Selection) (at : ℕ) → IsFlowing I cs c → IsFirstFailing (assigned I c) cs at → AllMet (assigned I d) cs → ⊥
failing_refutes I cs c d at f x m = x.fails (met_at (assigned I c) cs at x.constraint (all_of_flows I cs c d f m) x.is)
