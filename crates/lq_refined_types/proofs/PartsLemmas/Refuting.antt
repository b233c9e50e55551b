-- What a point at which a flow fails says of the instances of its goal, and which flows a change can break.
use Rattle.std.proofs.Common.{◌≡◌, inl, inr, ℕ, zero, suc, ◌+◌, ◌<◌, ◌≤◌, length, slice_get, arith, Bool, true, false, cond, List, [], ◌∷◌, map, Option, Some, None, refl, sym, ap, subst}
use Rattle.lq_logic_predicates.specs.ClosedImplication.{IsValid}
use Rattle.lq_logic_predicates.specs.Formula.{Formula}
use Rattle.lq_logic_predicates.specs.Points.{Point, Meets}
use Rattle.lq_logic_predicates.specs.Reading.{reading_of}
use Rattle.lq_refined_types.proofs.PartsLemmas.Flows.{MeetsSome, some_of, fewer, picked_within, parts_within}
use Rattle.lq_refined_types.specs.Parts.Assignment.{goal_under, parts_under}
use Rattle.lq_refined_types.specs.Parts.Constraint.{Constraint, IsMet}
use Rattle.lq_refined_types.specs.Parts.Flowing.{Selection, IsWithin, assigned, picked}
use Rattle.lq_refined_types.specs.Parts.Part.{Part, known, unknown, Parts}
use Rattle.lq_refined_types.specs.Parts.Refuting.{FailsAt, HasRefuted, IsRefuted, IsUnknown, Speak, SpeaksOf}
use Rattle.lq_refined_types.specs.Parts.Substitution.{Subst, formula_by}

abbrev the : {X : Type 0} → X → Option X → X
the a None = a
the a (Some x) = x

-- a chosen instance whose negated reading is met is one of those that are chosen
chosen_meets : (f : ℕ → Bool) (p : Point) (σ : Subst) (k : ℕ) (qs : List Formula) (n : ℕ) (q : Formula) → slice_get qs n ≡ Some q
    → f (k + n) ≡ true → Meets p (reading_of false (formula_by σ q)) → MeetsSome p (map (formula_by σ) (picked f k qs))
chosen_meets f p σ k [] n q e h m = absurd (cc)
chosen_meets f p σ k (a ∷ qs) zero q e h m = by (f k) (subst (λ j. f j ≡ true) (omega arith) h)
  where
    is : a ≡ q
    is = ap (the a) e

    by : (b : Bool) → b ≡ true → MeetsSome p (map (formula_by σ) (cond b (a ∷ picked f (suc k) qs) (picked f (suc k) qs)))
    by true t = inl (subst (λ x. Meets p (reading_of false (formula_by σ x))) (sym is) m)
    by false t = absurd (cc)
chosen_meets f p σ k (a ∷ qs) (suc n) q e h m = by (f k) (chosen_meets f p σ (suc k) qs n q e (subst (λ j. f j ≡ true) (omega arith) h) m)
  where
    by : (b : Bool) → MeetsSome p (map (formula_by σ) (picked f (suc k) qs)) → MeetsSome p (map (formula_by σ) (cond b (a ∷ picked f (suc k) qs) (picked f (suc k) qs)))
    by true s = inr s
    by false s = s

-- one of those that are chosen, by its number behind the first k
pub record IsChosen (f : ℕ → Bool) (p : Point) (σ : Subst) (k : ℕ) (qs : List Formula) : Type 0 where
  pub number : ℕ
  pub is : f (k + number) ≡ true
  pub instance : Formula
  pub here : slice_get qs number ≡ Some instance
  pub against : Meets p (reading_of false (formula_by σ instance))

one_chosen : (f : ℕ → Bool) (p : Point) (σ : Subst) (k : ℕ) (qs : List Formula) → MeetsSome p (map (formula_by σ) (picked f k qs)) → IsChosen f p σ k qs
one_chosen f p σ k [] s = absurd s
one_chosen f p σ k (a ∷ qs) s = by (f k) refl s (one_chosen f p σ (suc k) qs)
  where
    later : IsChosen f p σ (suc k) qs → IsChosen f p σ k (a ∷ qs)
    later r = record { number = suc r.number; is = subst (λ j. f j ≡ true) (omega arith) r.is; instance = r.instance; here = r.here; against = r.against }

    by : (b : Bool) → f k ≡ b → MeetsSome p (map (formula_by σ) (cond b (a ∷ picked f (suc k) qs) (picked f (suc k) qs)))
        → (MeetsSome p (map (formula_by σ) (picked f (suc k) qs)) → IsChosen f p σ (suc k) qs) → IsChosen f p σ k (a ∷ qs)
    by true e (inl m) go = record { number = 0; is = subst (λ j. f j ≡ true) (omega arith) e; instance = a; here = refl; against = m }
    by true e (inr r) go = later (go r)
    by false e r go = later (go r)

pub refuted_go : (I : ℕ → List Formula) (c d : Selection) (hs : Parts) (u : ℕ) (σ : Subst) (p : Point) (k : ℕ)
    → FailsAt (assigned I c) (record { hypotheses = hs; goal = unknown u σ }) p → IsRefuted p σ (I u) k → IsWithin I d c
    → IsMet (assigned I d) (record { hypotheses = hs; goal = unknown u σ }) → d u k ≡ true → ⊥
refuted_go I c d hs u σ p k f r w m h =
    fewer (parts_under (assigned I d) hs) (parts_under (assigned I c) hs) (map (formula_by σ) (picked (d u) 0 (I u))) (map (formula_by σ) (picked (c u) 0 (I u))) (parts_within I d c w hs) (picked_within (d u) (c u) σ 0 (I u) (λ n a b. w u n (omega (arith, b)))) m p f.point f.meets (chosen_meets (d u) p σ 0 (I u) k r.instance r.here (subst (λ j. d u j ≡ true) (omega arith) h) r.against)

pub one_is_refuted : (I : ℕ → List Formula) (c : Selection) (hs : Parts) (u : ℕ) (σ : Subst) (p : Point)
    → FailsAt (assigned I c) (record { hypotheses = hs; goal = unknown u σ }) p → HasRefuted (c u) p σ (I u)
one_is_refuted I c hs u σ p f =
    let r : IsChosen (c u) p σ 0 (I u) = one_chosen (c u) p σ 0 (I u) (some_of p (map (formula_by σ) (picked (c u) 0 (I u))) f.against) in
    record { number = r.number; is_chosen = subst (λ j. c u j ≡ true) (omega arith) r.is; refuted = record { instance = r.instance; here = r.here; against = r.against } }

-- what is chosen alike is one list
picked_alike : (f g : ℕ → Bool) (k : ℕ) (qs : List Formula) → ((n : ℕ) → k ≤ n → n < k + length qs → f n ≡ g n) → picked f k qs ≡ picked g k qs
picked_alike f g k [] h = refl
picked_alike f g k (a ∷ qs) h =
    let e : f k ≡ g k = h k (omega arith) (omega arith) in
    let r : picked f (suc k) qs ≡ picked g (suc k) qs = picked_alike f g (suc k) qs (λ n a b. h n (omega (arith, a)) (omega (arith, b))) in
    cc

abbrev Alike : (ℕ → List Formula) → Selection → Selection → ℕ → Type 0
Alike I c d u = (i : ℕ) → i < length (I u) → c u i ≡ d u i

assigned_alike : (I : ℕ → List Formula) (c d : Selection) (u : ℕ) → Alike I c d u → assigned I c u ≡ assigned I d u
assigned_alike I c d u h = picked_alike (c u) (d u) 0 (I u) (λ n a b. h n (omega (arith, b)))

parts_alike : (I : ℕ → List Formula) (c d : Selection) (hs : Parts) → ((u : ℕ) → Speak u hs → Alike I c d u)
    → parts_under (assigned I c) hs ≡ parts_under (assigned I d) hs
parts_alike I c d [] h = refl
parts_alike I c d (known p ∷ hs) h = let r : parts_under (assigned I c) hs ≡ parts_under (assigned I d) hs = parts_alike I c d hs (λ u s. h u (inr s)) in cc
parts_alike I c d (unknown u σ ∷ hs) h =
    let r : parts_under (assigned I c) hs ≡ parts_under (assigned I d) hs = parts_alike I c d hs (λ w s. h w (inr s)) in
    let e : assigned I c u ≡ assigned I d u = assigned_alike I c d u (h u (inl refl)) in
    cc

goal_alike : (I : ℕ → List Formula) (c d : Selection) (q : Part) → ((u : ℕ) → IsUnknown u q → Alike I c d u)
    → goal_under (assigned I c) q ≡ goal_under (assigned I d) q
goal_alike I c d (known p) h = refl
goal_alike I c d (unknown u σ) h = let e : assigned I c u ≡ assigned I d u = assigned_alike I c d u (h u refl) in cc

pub others_stay : (I : ℕ → List Formula) (c d : Selection) (k : Constraint)
    → ((u : ℕ) → SpeaksOf u k → (i : ℕ) → i < length (I u) → c u i ≡ d u i) → IsMet (assigned I c) k → IsMet (assigned I d) k
others_stay I c d k h m =
    let e : parts_under (assigned I c) k.hypotheses ≡ parts_under (assigned I d) k.hypotheses = parts_alike I c d k.hypotheses (λ u s. h u (inl s)) in
    let g : goal_under (assigned I c) k.goal ≡ goal_under (assigned I d) k.goal = goal_alike I c d k.goal (λ u s. h u (inr s)) in
    subst (λ hs. IsValid record { hypotheses = hs; goal = goal_under (assigned I d) k.goal }) e (subst (λ q. IsValid record { hypotheses = parts_under (assigned I c) k.hypotheses; goal = q }) g m)
