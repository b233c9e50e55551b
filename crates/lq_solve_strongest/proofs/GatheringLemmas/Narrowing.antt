-- Narrow parts, one after another.
use Rattle.std.proofs.Common.{◌≡◌, ◌∙◌, ◌⊎◌, inl, inr, ℕ, zero, suc, ◌+◌, ◌<◌, ◌≤◌, Bool, Result, Ok, Err, IfOk, IsTrue, List, [], ◌∷◌, ◌++◌, All, Some, None, get_or, length, map, take, slice_get, slice_index_or, refl, sym, ap, subst, arith}
use Rattle.std.proofs.lemmas.List.Elements.{All-append, All-cons, All-head, All-nil, All-tail}
use Rattle.std.proofs.lemmas.List.{map-append, map_more, take_all}
use Rattle.std.proofs.lemmas.Option.{slice_get_within, unwrap_or-slice_get}
use Rattle.std.specs.Option.{unwrap_or}
use Rattle.lq_refined_substitution.specs.Implications.Views.{environment_in, implication_view}
use Rattle.lq_refined_substitution.specs.declared.implications.implication.Implication.{Implication}
use Rattle.lq_solve_strongest.specs.SmallForms.Narrow.{IsNarrow}
use Rattle.lq_refined_types.specs.Parts.Assignment.{Assignment, all_joined, goal_under, joined, part_under, parts_under}
use Rattle.lq_refined_types.specs.Parts.Constraint.{Constraint}
use Rattle.lq_refined_types.specs.Parts.Part.{Part, known, unknown, Parts}
use Rattle.lq_refined_types.specs.Parts.Substitution.{formula_by}
use Rattle.lq_logic_predicates.specs.ClosedImplication.{ClosedImplication}
use Rattle.lq_logic_predicates.specs.Comparison.{CanGather}
use Rattle.lq_logic_predicates.specs.Formula.{Formula, conjunction}
use Rattle.lq_logic_predicates.specs.Literals.{implication_literals}
use Rattle.lq_solve_fixpoint.specs.Questions.Assigned.{closed_under}
use Rattle.lq_refined_substitution.specs.Substitution.Views.{part_view, parts_view}
use Rattle.lq_refined_substitution.specs.declared.substitution.parts.Part as code
use Rattle.lq_refined_types.specs.Subtyping.Implication.{constraint_of}
use Rattle.lq_solve_strongest.specs.Gathering.Fitting.{AllGather, AreNarrowEnvironments, AreNarrowImplications, IsNarrowImplication}

some_is : {X : Type 0} (x y : X) → Some x ≡ Some y → x ≡ y
some_is x y e = cc

pub one_narrow : (p : Formula) → IsNarrow p → All IsNarrow (p ∷ [])
one_narrow p h = All-cons IsNarrow p [] h (All-nil IsNarrow)

pub if_true : {E : Type 0} (r : Result Bool E) (P Q : Type 0) → (P → Q) → IfOk r (λ b. IsTrue b → P) → IfOk r (λ b. IsTrue b → Q)
if_true (Ok b) P Q f h = λ t. f (h t)
if_true (Err e) P Q f h = tt

-- ---- instances

take_next : {X : Type 0} (xs : List X) (at : ℕ) (x : X) → Some x ≡ slice_get xs at → take (at + 1) xs ≡ take at xs ++ x ∷ []
take_next [] at x e = absurd (cc)
take_next (a ∷ xs) zero x e = ap (λ y. y ∷ []) (some_is a x (sym e))
take_next (a ∷ xs) (suc at) x e = subst (λ n. take n (a ∷ xs) ≡ a ∷ (take at xs ++ x ∷ [])) next (ap (λ l. a ∷ l) (take_next xs at x e))
  where
    next : suc (at + 1) ≡ suc at + 1
    next = omega arith

pub instances_next : (f : Formula → Formula) (qs : List Formula) (at : ℕ) (q : Formula) → Some q ≡ slice_get qs at → All IsNarrow (map f (take at qs)) → IsNarrow (f q)
    → All IsNarrow (map f (take (at + 1) qs))
instances_next f qs at q e h n =
    subst (λ l. All IsNarrow (map f l)) (sym (take_next qs at q e))
    (subst (All IsNarrow) (sym (map-append f (take at qs) (q ∷ []))) (All-append IsNarrow (map f (take at qs)) (f q ∷ []) h (one_narrow (f q) n)))

pub instances_all : (f : Formula → Formula) (qs : List Formula) (at : ℕ) → length qs ≤ at → All IsNarrow (map f (take at qs)) → All IsNarrow (map f qs)
instances_all f qs at w h = subst (λ l. All IsNarrow (map f l)) (take_all at qs w) h

pub instances_none : (all : List (List Formula)) (u : ℕ) (f : Formula → Formula) → None ≡ slice_get all u → All IsNarrow (map f (slice_index_or all u []))
instances_none all u f e = subst (λ l. All IsNarrow (map f l)) (unwrap_or-slice_get all u []) (subst (λ o. All IsNarrow (map f (unwrap_or o []))) e (All-nil IsNarrow))

pub instances_some : (all : List (List Formula)) (u : ℕ) (f : Formula → Formula) (qs : List Formula) → Some qs ≡ slice_get all u → All IsNarrow (map f qs)
    → All IsNarrow (map f (slice_index_or all u []))
instances_some all u f qs e h = subst (λ l. All IsNarrow (map f l)) (unwrap_or-slice_get all u []) (subst (λ o. All IsNarrow (map f (unwrap_or o []))) e h)

-- ---- parts

parts_more : (A : Assignment) (xs ys : Parts) → All IsNarrow (parts_under A xs) → All IsNarrow (parts_under A ys) → All IsNarrow (parts_under A (xs ++ ys))
parts_more A [] ys h k = k
parts_more A (x ∷ xs) ys h k =
    All-append IsNarrow (part_under A x) (parts_under A (xs ++ ys)) (left (part_under A x) (parts_under A xs) h) (parts_more A xs ys (right (part_under A x) (parts_under A xs) h) k)
  where
    left : (cs ds : List Formula) → All IsNarrow (cs ++ ds) → All IsNarrow cs
    left [] ds g = All-nil IsNarrow
    left (a ∷ cs) ds g = All-cons IsNarrow a cs (All-head IsNarrow a (cs ++ ds) g) (left cs ds (All-tail IsNarrow a (cs ++ ds) g))

    right : (cs ds : List Formula) → All IsNarrow (cs ++ ds) → All IsNarrow ds
    right [] ds g = g
    right (a ∷ cs) ds g = right cs ds (All-tail IsNarrow a (cs ++ ds) g)

part_alone : (A : Assignment) (q : Part) → All IsNarrow (part_under A q) → All IsNarrow (parts_under A (q ∷ []))
part_alone A q h = All-append IsNarrow (part_under A q) [] h (All-nil IsNarrow)

pub parts_next : (A : Assignment) (ps : List code.Part) (i : ℕ) (q : code.Part) → i < length ps → q ≡ get_or ps i q → All IsNarrow (parts_under A (map part_view (take i ps)))
    → All IsNarrow (part_under A (part_view q)) → All IsNarrow (parts_under A (map part_view (take (i + 1) ps)))
parts_next A ps i q w e h n =
    subst (λ l. All IsNarrow (parts_under A l)) (sym (map_more part_view ps i q w ∙ ap (λ x. map part_view (take i ps) ++ part_view x ∷ []) (sym e)))
    (parts_more A (map part_view (take i ps)) (part_view q ∷ []) h (part_alone A (part_view q) n))

pub parts_all : (A : Assignment) (ps : List code.Part) (i : ℕ) → length ps ≤ i → All IsNarrow (parts_under A (map part_view (take i ps))) → All IsNarrow (parts_under A (map part_view ps))
parts_all A ps i w h = subst (λ l. All IsNarrow (parts_under A (map part_view l))) (take_all i ps w) h

-- ---- environments

below_next : (n k : ℕ) → k < n + 1 → (k < n) ⊎ (n ≡ k)
below_next zero zero w = inr refl
below_next zero (suc k) w = absurd (omega (arith, w))
below_next (suc n) zero w = inl (omega arith)
below_next (suc n) (suc k) w = elim (below_next n k (omega (arith, w))) [ inl v ↦ inl (omega (arith, v)) | inr e ↦ inr (omega (arith, e)) ]

environment_next : (A : Assignment) (es : List Parts) (env : ℕ) → All IsNarrow (parts_under A (environment_in es env)) → AreNarrowEnvironments A es env → AreNarrowEnvironments A es (env + 1)
environment_next A es env n h e w = elim (below_next env e w) [ inl v ↦ h e v | inr q ↦ subst (λ i. All IsNarrow (parts_under A (environment_in es i))) q n ]

pub environment_none : (A : Assignment) (es : List Parts) (env : ℕ) → environment_in es env ≡ [] → AreNarrowEnvironments A es env → AreNarrowEnvironments A es (env + 1)
environment_none A es env e = environment_next A es env (subst (λ l. All IsNarrow (parts_under A l)) (sym e) (All-nil IsNarrow))

pub environment_some : (A : Assignment) (es : List Parts) (env parent : ℕ) (q : Part) → parent < env → environment_in es env ≡ environment_in es parent ++ q ∷ []
    → All IsNarrow (part_under A q) → AreNarrowEnvironments A es env → AreNarrowEnvironments A es (env + 1)
environment_some A es env parent q w e n h =
    environment_next A es env (subst (λ l. All IsNarrow (parts_under A l)) (sym e) (parts_more A (environment_in es parent) (q ∷ []) (h parent w) (part_alone A q n))) h

-- an environment that isn't there has no hypotheses
each_environment : (A : Assignment) (es : List Parts) → AreNarrowEnvironments A es (length es) → (e : ℕ) → All IsNarrow (parts_under A (environment_in es e))
each_environment A [] h zero = All-nil IsNarrow
each_environment A [] h (suc e) = All-nil IsNarrow
each_environment A (x ∷ es) h zero = h 0 (omega arith)
each_environment A (x ∷ es) h (suc e) = each_environment A es (λ i w. h (suc i) (omega (arith, w))) e

-- ---- implications

pub implications_next : (A : Assignment) (is : List Implication) (n : ℕ) (i : Implication) → Some i ≡ slice_get is n → IsNarrowImplication A i → AreNarrowImplications A is n
    → AreNarrowImplications A is (n + 1)
implications_next A is n i e h k at j w g =
    elim (below_next n at w) [ inl v ↦ k at j v g | inr q ↦ subst (IsNarrowImplication A) (some_is i j (e ∙ ap (slice_get is) q ∙ g)) h ]

pub implications_all : (A : Assignment) (is : List Implication) (n : ℕ) → length is ≤ n → AreNarrowImplications A is n → AreNarrowImplications A is (length is)
implications_all A is n w h at i v e = h at i (omega (arith, w, v)) e

joined_narrow : (p : Formula) (qs : List Formula) → IsNarrow p → All IsNarrow qs → IsNarrow (joined p qs)
joined_narrow p [] h k = h
joined_narrow p (q ∷ qs) h k = joined_narrow (conjunction p q) qs (h, All-head IsNarrow q qs k) (All-tail IsNarrow q qs k)

all_joined_narrow : (qs : List Formula) → All IsNarrow qs → IsNarrow (all_joined qs)
all_joined_narrow [] h = tt
all_joined_narrow (q ∷ qs) h = joined_narrow q qs (All-head IsNarrow q qs h) (All-tail IsNarrow q qs h)

goal_narrow : (A : Assignment) (q : Part) → All IsNarrow (part_under A q) → IsNarrow (goal_under A q)
goal_narrow A (known p) h = All-head IsNarrow p [] h
goal_narrow A (unknown u σ) h = all_joined_narrow (map (formula_by σ) (A u)) h

record IsMadeOf (es : List Parts) (is : List Implication) (at : ℕ) (k : Constraint) : Type 0 where
  item : Implication
  here : slice_get is at ≡ Some item
  is_it : constraint_of (implication_view es item) ≡ k

made_of : (es : List Parts) (is : List Implication) (at : ℕ) (k : Constraint) → slice_get (map constraint_of (map (implication_view es) is)) at ≡ Some k → IsMadeOf es is at k
made_of es [] at k e = absurd (cc)
made_of es (i ∷ is) zero k e = record { item = i; here = refl; is_it = some_is (constraint_of (implication_view es i)) k e }
made_of es (i ∷ is) (suc at) k e = let r = made_of es is at k e in record { item = r.item; here = r.here; is_it = r.is_it }

abbrev pub Law : Type 0
Law = (i : ClosedImplication) → All IsNarrow i.hypotheses → IsNarrow i.goal → All CanGather (implication_literals i)

pub all_gather : Law → (A : Assignment) (es : List Parts) (is : List Implication) → AreNarrowEnvironments A es (length es) → AreNarrowImplications A is (length is)
    → AllGather A (map constraint_of (map (implication_view es) is))
all_gather law A es is h n at k e =
    subst (λ c. All CanGather (implication_literals (closed_under A c))) m.is_it
    (law (closed_under A (constraint_of (implication_view es m.item)))
    (parts_more A (environment_in es m.item.env) (parts_view m.item.left) (each_environment A es h m.item.env) here.left)
    (goal_narrow A (part_view m.item.goal) here.goal))
  where
    m : IsMadeOf es is at k
    m = made_of es is at k e

    here : IsNarrowImplication A m.item
    here = n at m.item (slice_get_within is at m.item m.here) m.here
