-- What stays from one flow that is asked to the next.
use Rattle.std.proofs.Common.{◌≡◌, ◌⊎◌, inl, inr, ℕ, zero, suc, ◌+◌, ◌*◌, ◌<◌, ◌≤◌, length, slice_get, slice_index_or, arith, true, false, List, [], ◌∷◌, Option, Some, None, All, refl, sym, ap, subst}
use Rattle.std.proofs.Math.Nat.{mul-le-mul_right}
use Rattle.std.proofs.lemmas.Grind.{common_steps}
use Rattle.std.proofs.lemmas.List.Elements.{All-head, All-tail}
use Rattle.std.proofs.lemmas.Map.Views.{length-le_from_below}
use Rattle.std.specs.List.Sorted.{IsStrictlySortedBy}
use Rattle.std.specs.Ordering.{nat_cmp}
use Rattle.lq_refined_types.specs.Parts.Constraint.{Constraint, FlowsMet, AllMet, IfFlow, IsDemand, IsMet}
use Rattle.lq_refined_types.specs.Parts.Flowing.{FailingRefutes, FlowingIsStrongest, Selection, IsFlowing, IsStrongest, assigned}
use Rattle.lq_refined_types.specs.Parts.Part.{Part, known, unknown}
use Rattle.lq_solve_fixpoint.specs.Weakening.Among.{IsAmong}
use Rattle.lq_solve_fixpoint.specs.Weakening.Chosen.{all_below, below_count}
use Rattle.lq_solve_fixpoint.specs.Weakening.Index.{AreGoals, IsWithinOne, count_or_zero, goal_unknown}
use Rattle.lq_logic_predicates.specs.declared.pred.Stop.{Stop}
use Rattle.lq_refined_types.specs.Parts.Refuting.{FailsAt}
use Rattle.lq_logic_points.specs.Values.{as_point}
use Rattle.lq_logic_points.specs.declared.point.Point.{Point}
use Rattle.lq_solve_fixpoint.specs.Weakening.Judging.{FailsThere, FlowFailsThere, HoldsThere, Instances, IsFailingFlow, StopsAt}
use Rattle.lq_solve_fixpoint.specs.Weakening.Solving.{DemandFails, DemandMet, DemandsMet, HasNoSolution, IsFailingDemand}
use Rattle.lq_solve_fixpoint.specs.declared.weakening.judge.Failure.TheVariants.{Demand}
use Rattle.lq_solve_fixpoint.specs.declared.weakening.error.SolveError.{SolveError}
use Rattle.lq_solve_fixpoint.specs.declared.weakening.error.SolveError.TheVariants.{At, Memory}
use Rattle.lq_solve_fixpoint.specs.Weakening.Waking.{IsFlowAt, Wakes}
use Rattle.lq_solve_fixpoint.specs.Weakening.Weakening.{IsWeakening}
use Rattle.lq_solve_fixpoint.specs.declared.weakening.span.Span.{Span}
use Rattle.lq_solve_fixpoint.proofs.WeakeningLemmas.Inserting.{flow_in_range, wakes_for}
use Rattle.lq_solve_fixpoint.proofs.WeakeningLemmas.Weakening.{IsThere, constraint_there, goal_here, goal_there, if_flow_by, same_lengths}
use Rattle.lq_solve_fixpoint.proofs.WeakeningLemmas.Members.{same_or_not}
use Rattle.std.proofs.lemmas.Option.{slice_get_within}

-- what the first so many flows that were asked leave
pub record Weakens (I : Instances) (cs : List Constraint) (goals : List (Option ℕ)) (c0 : Selection) (ks0 : List ℕ) (c : Selection) (ks : List ℕ) : Type 0 where
  pub kept : IsWeakening I cs c0 ks0 → IsWeakening I cs c ks
  pub flows : All (IsFlowAt goals) ks
  pub sorted : IsStrictlySortedBy nat_cmp ks

all_none : (P : ℕ → Type 0) → All P []
all_none P = λ k d h. absurd (omega (arith, h))

pub weakens_first : (I : Instances) (cs : List Constraint) (goals : List (Option ℕ)) (c : Selection) (ks : List ℕ) → Wakes goals (λ _. Unit {0}) [] ks → Weakens I cs goals c ks c ks
unfolding IsStrictlySortedBy
weakens_first I cs goals c ks w = record { kept = λ h. h; flows = w.flows (all_none (IsFlowAt goals)); sorted = w.sorted tt }

pub weakens_next : (I J : Instances) (cs ds : List Constraint) (goals : List (Option ℕ)) (c0 : Selection) (ks0 : List ℕ) (c d : Selection) (ks mid ls : List ℕ) (at : ℕ)
    → J ≡ I → ds ≡ cs → Weakens I cs goals c0 ks0 c ks → ks ≡ at ∷ mid → IsStrictlySortedBy nat_cmp mid → (IsWeakening J ds c (at ∷ mid) → IsWeakening J ds d ls)
    → (All (IsFlowAt goals) mid → All (IsFlowAt goals) ls) → (IsStrictlySortedBy nat_cmp mid → IsStrictlySortedBy nat_cmp ls) → Weakens I cs goals c0 ks0 d ls
weakens_next I J cs ds goals c0 ks0 c d ks mid ls at i e w r s step flows sorted =
    record { kept = λ h. there (step (back (subst (IsWeakening I cs c) r (w.kept h)))); flows = flows (All-tail (IsFlowAt goals) at mid (subst (All (IsFlowAt goals)) r w.flows)); sorted = sorted s }
  where
    there : IsWeakening J ds d ls → IsWeakening I cs d ls
    there h = subst (λ x. IsWeakening I x d ls) e (subst (λ x. IsWeakening x ds d ls) i h)

    back : IsWeakening I cs c (at ∷ mid) → IsWeakening J ds c (at ∷ mid)
    back h = subst (λ x. IsWeakening J x c (at ∷ mid)) (sym e) (subst (λ x. IsWeakening x cs c (at ∷ mid)) (sym i) h)

pub first_flow : (goals : List (Option ℕ)) (ks mid : List ℕ) (at : ℕ) → ks ≡ at ∷ mid → All (IsFlowAt goals) ks → IsFlowAt goals at
first_flow goals ks mid at r h = All-head (IsFlowAt goals) at mid (subst (All (IsFlowAt goals)) r h)

flows_bound : (goals : List (Option ℕ)) (ls : List ℕ) → IsStrictlySortedBy nat_cmp ls → All (IsFlowAt goals) ls → length ls ≤ length goals
flows_bound goals ls s h = length-le_from_below (length goals) ls s (λ k d r. flow_in_range goals (slice_index_or ls k d) (h k d r))

pub measure_falls : (goals : List (Option ℕ)) (t u : ℕ) (ks mid ls : List ℕ) (at : ℕ) → ks ≡ at ∷ mid → (u < t) ⊎ ((u ≡ t) × (ls ≡ mid))
    → IsStrictlySortedBy nat_cmp ls → All (IsFlowAt goals) ls → u * (length goals + 1) + length ls < t * (length goals + 1) + length ks
measure_falls goals t u ks mid ls at r (inl f) s h =
    let b : length ls ≤ length goals = flows_bound goals ls s h in
    let m : (u + 1) * (length goals + 1) ≤ t * (length goals + 1) = mul-le-mul_right (length goals + 1) (omega (arith, f)) in
    let d : (u + 1) * (length goals + 1) ≡ u * (length goals + 1) + (length goals + 1) = grind arith in
    omega (arith, b, m, d)
measure_falls goals t u ks mid ls at r (inr e) s h =
    let a : length ks ≡ suc (length mid) = ap length r in
    let b : length ls ≡ length mid = ap length e.1 in
    let m : u * (length goals + 1) ≡ t * (length goals + 1) = ap (λ x. x * (length goals + 1)) e.0 in
    omega (arith, a, b, m)

-- of the flows of the whole list all wait
pub wakes_all : (goals : List (Option ℕ)) (spans : List Span) (ks : List ℕ) → spans ≡ record { start = 0; end = length goals } ∷ []
    → Wakes goals (IsWithinOne spans) [] ks → Wakes goals (λ _. Unit {0}) [] ks
wakes_all goals spans ks e w = wakes_for goals (IsWithinOne spans) (λ _. Unit {0}) [] ks w within
  where
    within : (k : ℕ) → Unit {0} → IsFlowAt goals k → IsWithinOne spans k
    within k u f = record { span = record { start = 0; end = length goals }; among = subst (λ l. IsAmong l record { start = 0; end = length goals }) (sym e) (inl refl); from = omega arith; before = flow_in_range goals k f }

-- at first all is chosen, and all flows wait
pub weakening_first : (I : Instances) (cs : List Constraint) (goals : List (Option ℕ)) (c : Selection) (ks : List ℕ) → AreGoals cs goals
    → ((u k : ℕ) → k < length (I u) → c u k ≡ true) → Wakes goals (λ _. Unit {0}) [] ks → IsWeakening I cs c ks
weakening_first I cs goals c ks ag all w = record { greatest = λ d m u k r h. all u k r; met = met }
  where
    met : (at : ℕ) (k : Constraint) → slice_get cs at ≡ Some k → (IsAmong ks at → ⊥) → IfFlow k.goal (IsMet (assigned I c) k)
    met at k e n = if_flow_by k.goal (IsMet (assigned I c) k) (λ u g. absurd (n (w.woken at tt (record { goal = u; here = goal_here cs goals at k u ag e g }))))

-- at the end all flows are valid
pub flowing : (I : Instances) (cs : List Constraint) (c : Selection) → IsWeakening I cs c [] → IsFlowing I cs c
flowing I cs c w = record { meets = all cs (λ at k e. w.met at k e (λ h. h)); greatest = w.greatest }
  where
    all : (ks : List Constraint) → ((at : ℕ) (k : Constraint) → slice_get ks at ≡ Some k → IfFlow k.goal (IsMet (assigned I c) k)) → FlowsMet (assigned I c) ks
    all [] h = tt
    all (k ∷ ks) h = (h 0 k refl, all ks (λ at x e. h (suc at) x e))

-- flows and demands are all
pub all_met : (I : Instances) (cs : List Constraint) (c : Selection) → FlowsMet (assigned I c) cs
    → ((i : ℕ) (k : Constraint) → slice_get cs i ≡ Some k → IsDemand k.goal → IsMet (assigned I c) k) → AllMet (assigned I c) cs
all_met I [] c f d = tt
all_met I (k ∷ ks) c f d = (one k.goal f.0 (d 0 k refl), all_met I ks c f.1 (λ i x e. d (suc i) x e))
  where
    one : (q : Part) → IfFlow q (IsMet (assigned I c) k) → (IsDemand q → IsMet (assigned I c) k) → IsMet (assigned I c) k
    one (known p) m g = g tt
    one (unknown u σ) m g = m

pub all_chosen : (I : Instances) (counts : List ℕ) (c : Selection) → ((u : ℕ) → length (I u) ≡ count_or_zero (slice_get counts u))
    → ((u k : ℕ) → c u k ≡ all_below counts u k) → (u k : ℕ) → k < length (I u) → c u k ≡ true
all_chosen I counts c le is u k r = by (slice_get counts u) (le u) (is u k)
  where
    by : (n : Option ℕ) → length (I u) ≡ count_or_zero n → c u k ≡ below_count n k → c u k ≡ true
    by None l e = absurd (omega (arith, l, r))
    by (Some n) l e = let m : k < n = omega (arith, l, r) in grind (arith, common_steps)

pub nothing_left : (ks : List ℕ) → (0 < length ks → false ≡ true) → ks ≡ []
nothing_left [] h = refl
nothing_left (k ∷ ks) h = absurd (differ (h (omega arith)))
  where
    differ : false ≡ true → ⊥
    differ e = cc

-- what was asked and is over: nothing waits
pub weakens_last : (I : Instances) (cs : List Constraint) (goals : List (Option ℕ)) (c0 : Selection) (ks0 : List ℕ) (c : Selection) (ks : List ℕ) → Weakens I cs goals c0 ks0 c ks
    → ks ≡ [] → IsWeakening I cs c0 ks0 → IsWeakening I cs c []
weakens_last I cs goals c0 ks0 c ks w e h = subst (IsWeakening I cs c) e (w.kept h)

no_demand : (q : Part) (u : ℕ) → goal_unknown q ≡ Some u → IsDemand q → ⊥
no_demand (known p) u e d = absurd (cc)
no_demand (unknown w σ) u e d = d

-- a flow is no demand
pub flow_met : (I : Instances) (cs : List Constraint) (c : Selection) (goals : List (Option ℕ)) (at : ℕ) → AreGoals cs goals → IsFlowAt goals at → DemandMet I cs c at
flow_met I cs c goals at ag f k e d = absurd (no_demand k.goal f.goal (goal_there cs goals at k (Some f.goal) ag e f.here) d)

pub demand_met : (I : Instances) (cs : List Constraint) (c : Selection) (at : ℕ) → HoldsThere I cs c at → DemandMet I cs c at
demand_met I cs c at h k e d = h k e

-- a goal for each number in range
record HasGoal (goals : List (Option ℕ)) (at : ℕ) : Type 0 where
  pub goal : Option ℕ
  pub here : slice_get goals at ≡ Some goal

goal_in_range : (goals : List (Option ℕ)) (at : ℕ) → at < length goals → HasGoal goals at
goal_in_range [] at h = absurd (omega (arith, h))
goal_in_range (g ∷ gs) zero h = record { goal = g; here = refl }
goal_in_range (g ∷ gs) (suc at) h = let r : HasGoal gs at = goal_in_range gs at (omega (arith, h)) in record { goal = r.goal; here = r.here }

there_in_range : (cs : List Constraint) (goals : List (Option ℕ)) (at : ℕ) → AreGoals cs goals → at < length goals → IsThere cs at
there_in_range cs goals at ag r = let g : HasGoal goals at = goal_in_range goals at r in constraint_there cs goals at g.goal ag g.here

pub demand_fails : (I : Instances) (cs : List Constraint) (c : Selection) (goals : List (Option ℕ)) (at : ℕ) (p : Point) → AreGoals cs goals → at < length goals
    → FailsThere I cs c at (Demand p) → DemandFails I cs c at p
demand_fails I cs c goals at p ag r fails =
    let there : IsThere cs at = there_in_range cs goals at ag r in
    record { constraint = there.constraint; here = there.here; demand = (fails there.constraint there.here).0; fails = λ k e. (fails k e).1 }

-- a flow doesn't fail as a demand
pub flow_not_demand : (I : Instances) (cs : List Constraint) (c : Selection) (goals : List (Option ℕ)) (at : ℕ) (p : Point) → AreGoals cs goals → IsFlowAt goals at
    → FailsThere I cs c at (Demand p) → ⊥
flow_not_demand I cs c goals at p ag f fails =
    let there : IsThere cs at = constraint_there cs goals at (Some f.goal) ag f.here in
    no_demand there.constraint.goal f.goal (goal_there cs goals at there.constraint (Some f.goal) ag there.here f.here) (fails there.constraint there.here).0

-- what fails as a flow is one
pub failing_is_flow : (I : Instances) (cs : List Constraint) (c : Selection) (goals : List (Option ℕ)) (at : ℕ) (numbers : List ℕ) → AreGoals cs goals → at < length goals
    → FlowFailsThere I cs c at numbers → IsFlowAt goals at
failing_is_flow I cs c goals at numbers ag r fails =
    let there : IsThere cs at = there_in_range cs goals at ag r in
    let f : IsFailingFlow I c there.constraint numbers = fails there.constraint there.here in
    record { goal = f.number; here = goal_here cs goals at there.constraint f.number ag there.here (ap goal_unknown f.goal) }

-- the demands before a number are valid
abbrev pub DemandsBefore : Instances → List Constraint → Selection → ℕ → Type 0
DemandsBefore I cs c at = (i : ℕ) → i < at → DemandMet I cs c i

pub before_none : (I : Instances) (cs : List Constraint) (c : Selection) → DemandsBefore I cs c 0
before_none I cs c i r = absurd (omega (arith, r))

pub failing_here : (I J : Instances) (cs ds : List Constraint) (c : Selection) (at : ℕ) (p : Point) → J ≡ I → ds ≡ cs → DemandFails J ds c at p → DemandsBefore I cs c at
    → IsFailingDemand I cs c at p
failing_here I J cs ds c at p e g fails met =
    record { first = record { constraint = here.constraint; is = here.here; demand = here.demand; fails = refuted; before = λ i x r s d. met i r x s d }; fails = here.fails }
  where
    here : DemandFails I cs c at p
    here = subst (λ x. DemandFails I x c at p) g (subst (λ x. DemandFails x ds c at p) e fails)

    refuted : IsMet (assigned I c) here.constraint → ⊥
    refuted m = let f : FailsAt (assigned I c) here.constraint (as_point p) = here.fails here.constraint here.here in m (as_point p) f.point f.meets f.against

pub demands_met : (I : Instances) (cs : List Constraint) (c : Selection) (goals : List (Option ℕ)) (n : ℕ) → AreGoals cs goals → length goals ≤ n
    → DemandsBefore I cs c n → DemandsMet I cs c
demands_met I cs c goals n ag r met i k s d =
    met i (let e : length cs ≡ length goals = same_lengths cs goals ag in let w : i < length cs = slice_get_within cs i k s in omega (arith, e, w, r)) k s d

-- the two answers
pub strongest : (law : FlowingIsStrongest) (I : Instances) (cs : List Constraint) (c : Selection) → IsWeakening I cs c [] → DemandsMet I cs c → IsStrongest I cs c
strongest law I cs c w d = let f : IsFlowing I cs c = flowing I cs c w in law I cs c f (all_met I cs c f.meets d)

pub no_solution : (law : FailingRefutes) (I : Instances) (cs : List Constraint) (c : Selection) (at : ℕ) (p : Point) → IsWeakening I cs c [] → IsFailingDemand I cs c at p
    → HasNoSolution I cs c at p
no_solution law I cs c at p w f =
    let g : IsFlowing I cs c = flowing I cs c w in
    record { flowing = g; first = f.first; fails = f.fails; none_solves = λ d m. law I cs c d at g f.first m }

-- what was found of a judge that says the same
pub failing_same : (I J : Instances) (cs ds : List Constraint) (c : Selection) (at : ℕ) (p : Point) → J ≡ I → ds ≡ cs → IsFailingDemand J ds c at p → IsFailingDemand I cs c at p
failing_same I J cs ds c at p e f h = subst (λ x. IsFailingDemand I x c at p) f (subst (λ x. IsFailingDemand x ds c at p) e h)

pub met_same : (I J : Instances) (cs ds : List Constraint) (c : Selection) → J ≡ I → ds ≡ cs → DemandsMet J ds c → DemandsMet I cs c
met_same I J cs ds c e f h = subst (λ x. DemandsMet I x c) f (subst (λ x. DemandsMet x ds c) e h)
