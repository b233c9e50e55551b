-- What answers of other calls say of an implication by its number.
use Rattle.std.proofs.Common.{◌≡◌, inl, inr, ℕ, zero, suc, ◌+◌, ◌<◌, ◌≤◌, List, [], ◌∷◌, length, Option, Some, None, Result, Ok, Err, IfOk, IfSome, IfNone, slice_get, refl, sym, ap, subst, ◌∙◌, arith}
use Rattle.std.proofs.lemmas.Option.{slice_get_within}
use Rattle.lq_prover_proof_tree.proofs.LiteralsLemmas.Fits.{sources_gathered}
use Rattle.lq_prover_proof_tree.proofs.LiteralsLemmas.Leading.{first_not}
use Rattle.lq_prover_proof_tree.specs.Literals.Gathered.{CanBeGathered, IsFirstPast}
use Rattle.lq_prover_proof_tree.specs.Literals.Sources.{sources_of}
use Rattle.lq_refined_types.specs.Parts.Constraint.{Constraint, IsDemand}
use Rattle.lq_refined_types.specs.Parts.Flowing.{Selection, assigned}
use Rattle.lq_refined_types.specs.Parts.Assignment.{goal_under}
use Rattle.lq_refined_types.specs.Parts.Part.{Part, unknown}
use Rattle.lq_refined_types.specs.Parts.Refuting.{FailsAt}
use Rattle.lq_refined_types.specs.Parts.Substitution.{Subst}
use Rattle.lq_logic_points.specs.declared.point.Point as code
use Rattle.lq_logic_points.specs.Values.{as_point}
use Rattle.lq_logic_predicates.specs.ClosedImplication.{ClosedImplication, IsValid}
use Rattle.lq_logic_predicates.specs.Formula.{Formula}
use Rattle.lq_logic_predicates.specs.PredView.{formula_of}
use Rattle.lq_logic_predicates.specs.declared.pred.Pred.{Pred}
use Rattle.lq_logic_predicates.specs.declared.pred.Stop.{Stop}
use Rattle.lq_logic_predicates.specs.declared.pred.Stop.TheVariants.{Number, Gather, Pivots, Memory}
use Rattle.lq_prover_valid.specs.Answers.{IsCounterexample}
use Rattle.lq_prover_valid.specs.Small.{IsNoNumber, IsSmallImplication}
use Rattle.lq_prover_valid.specs.Stopping.{IsSmallDifference, StopsProving, StopsSmall}
use Rattle.lq_solve_fixpoint.specs.Questions.Assigned.{closed_under}
use Rattle.lq_logic_predicates.specs.Points.{Point}
use Rattle.lq_solve_fixpoint.specs.Weakening.Judging.{AreRefuted, FailsThere, FlowFailsThere, HoldsThere, Instances}
use Rattle.lq_solve_fixpoint.specs.declared.weakening.judge.Failure.TheVariants.{Demand}
use Rattle.lq_solve_strongest.specs.Selections.Fewer.{HasAll}
use Rattle.lq_solve_strongest.proofs.SelectionsLemmas.Fewer.{some_gather}
use Rattle.lq_solve_strongest.proofs.SelectionsLemmas.Whole.{closed_all}
use Rattle.lq_solve_strongest.proofs.WeakenLemmas.Deciding.{fewer_decidable, number_beyond, pivots_beyond}
use Rattle.lq_solve_strongest.proofs.WeakenLemmas.Those.{last_or}
use Rattle.lq_solve_strongest.specs.Weaken.Deciding.{IsSolvable}
use Rattle.lq_solve_strongest.specs.Weaken.Gathering.{AreGathered, IsFirstUngathered, IsGatheredAt, IsPastAt}
use Rattle.lq_solve_strongest.specs.Weaken.Stops.{MayStop, StopsAsking, StopsUnder}

-- ---- the implication of a number

pub record IsThere (cs : List Constraint) (at : ℕ) : Type 0 where
  pub constraint : Constraint
  pub here : slice_get cs at ≡ Some constraint

pub there : (cs : List Constraint) (at : ℕ) → at < length cs → IsThere cs at
there [] at w = absurd (omega (arith, w))
there (k ∷ cs) zero w = record { constraint = k; here = refl }
there (k ∷ cs) (suc at) w = let r = there cs at (omega (arith, w)) in record { constraint = r.constraint; here = r.here }

-- its closed implication is this one
abbrev pub IsClosedAs : Instances → List Constraint → ℕ → ClosedImplication → Type 0
IsClosedAs I cs at i = IfSome (slice_get cs at) (λ k. i ≡ closed_under I k)

pub closed_as : (I : Instances) (cs : List Constraint) (at : ℕ) (i : ClosedImplication) (k : Constraint) → IsClosedAs I cs at i → slice_get cs at ≡ Some k → i ≡ closed_under I k
closed_as I cs at i k h e = subst (λ o. IfSome o (λ k. i ≡ closed_under I k)) e h

pub whole_as : (I : Instances) (c : Selection) (i : ClosedImplication) (o : Option Constraint) → HasAll I c → IfSome o (λ k. i ≡ closed_under (assigned I c) k)
    → IfSome o (λ k. i ≡ closed_under I k)
whole_as I c i None h e = tt
whole_as I c i (Some k) h e = subst (λ x. i ≡ x) (closed_all I c h k) e

-- ---- the first that can't be gathered

pub past_there : {E : Type 0} (I : Instances) (cs : List Constraint) (at : ℕ) (i : ClosedImplication) (r : Result (Option Pred) E) → IsClosedAs I cs at i
    → IfOk r (λ o. IfSome o (λ p. IsFirstPast (sources_of i) (formula_of p))) → IfOk r (λ o. IfSome o (λ p. IsPastAt I cs at (formula_of p)))
past_there I cs at i (Ok (Some p)) h f = λ k e. subst (λ x. IsFirstPast (sources_of x) (formula_of p)) (closed_as I cs at i k h e) f
past_there I cs at i (Ok None) h f = tt
past_there I cs at i (Err x) h f = tt

pub gathered_there : {E : Type 0} (I : Instances) (cs : List Constraint) (at : ℕ) (i : ClosedImplication) (r : Result (Option Pred) E) → IsClosedAs I cs at i
    → IfOk r (λ o. IfNone o (CanBeGathered i)) → IfOk r (λ o. IfNone o (IsGatheredAt I cs at))
gathered_there I cs at i (Ok (Some p)) h g = tt
gathered_there I cs at i (Ok None) h g = λ k e. subst CanBeGathered (closed_as I cs at i k h e) g
gathered_there I cs at i (Err x) h g = tt

abbrev pub AreGatheredBefore : Instances → List Constraint → ℕ → Type 0
AreGatheredBefore I cs n = (i : ℕ) → i < n → IsGatheredAt I cs i

pub gathered_next : (I : Instances) (cs : List Constraint) (n : ℕ) → AreGatheredBefore I cs n → IsGatheredAt I cs n → AreGatheredBefore I cs (n + 1)
gathered_next I cs n h g i w k e = elim (last_or n i w) [ inl v ↦ h i v k e | inr q ↦ g k (subst (λ j. slice_get cs j ≡ Some k) (sym q) e) ]

pub gathered_all : (I : Instances) (cs : List Constraint) (n : ℕ) → length cs ≤ n → AreGatheredBefore I cs n → AreGathered I cs
gathered_all I cs n l h at k e = h at (let w = slice_get_within cs at k e in omega (arith, w, l)) k e

pub first_found : (I : Instances) (cs : List Constraint) (at : ℕ) (p : Formula) → at < length cs → IsPastAt I cs at p → AreGatheredBefore I cs at → IsFirstUngathered I cs at p
first_found I cs at p w f h =
    let t = there cs at w in record { constraint = t.constraint; here = t.here; past = f t.constraint t.here; before = h }

-- ---- stops of the prover

pub may_stop : (limit : ℕ) (I : Instances) (c : Selection) (cs : List Constraint) (at : ℕ) (i : ClosedImplication) (stop : Stop) → at < length cs → IsClosedAs (assigned I c) cs at i
    → StopsProving limit i stop → (IsSmallDifference i → StopsSmall stop) → (IsSmallImplication i → IsNoNumber stop) → MayStop limit I cs at stop
may_stop limit I c cs at i stop w h s d n g = by stop s d n
  where
    t : IsThere cs at
    t = there cs at w

    is : i ≡ closed_under (assigned I c) t.constraint
    is = closed_as (assigned I c) cs at i t.constraint h t.here

    under : (s : Stop) → StopsProving limit i s → (IsSmallDifference i → ⊥) → (IsSolvable limit i → ⊥) → StopsUnder limit I cs at s
    under s p n b = record {
      selection = c;
      constraint = t.constraint;
      here = t.here;
      stops = subst (λ x. StopsProving limit x s) is p;
      large = subst (λ x. IsSmallDifference x → ⊥) is n;
      beyond = λ all. elim (fewer_decidable limit I c t.constraint all) [
        | inl d ↦ n (subst IsSmallDifference (sym is) d)
        | inr s ↦ b (subst (IsSolvable limit) (sym is) s)
      ];
    }

    fits : CanBeGathered i
    fits = subst CanBeGathered (sym is) (some_gather I c t.constraint (g at t.constraint t.here))

    by : (s : Stop) → StopsProving limit i s → (IsSmallDifference i → StopsSmall s) → (IsSmallImplication i → IsNoNumber s) → StopsAsking limit I cs at s
    by (Gather p) f d n = first_not (sources_of i) (formula_of p) f ((sources_gathered i).1 fits)
    by (Number e) f d n = under (Number e) f d (number_beyond limit i e f n)
    by (Pivots k) f d n = under (Pivots k) f d (pivots_beyond limit i k f)
    by Memory f d n = tt

-- ---- answers of the prover

pub holds_there : (I : Instances) (c : Selection) (cs : List Constraint) (at : ℕ) (i : ClosedImplication) → IsClosedAs (assigned I c) cs at i → IsValid i → HoldsThere I cs c at
holds_there I c cs at i h v k e = subst IsValid (closed_as (assigned I c) cs at i k h e) v

pub goal_closed : (I : Instances) (c : Selection) (cs : List Constraint) (at : ℕ) (i : ClosedImplication) (q : Part) → at < length cs → IsClosedAs (assigned I c) cs at i
    → ((k : Constraint) → slice_get cs at ≡ Some k → k.goal ≡ q) → i.goal ≡ goal_under (assigned I c) q
goal_closed I c cs at i q w h g =
    let t = there cs at w in
    ap (λ (x : ClosedImplication). x.goal) (closed_as (assigned I c) cs at i t.constraint h t.here) ∙ ap (goal_under (assigned I c)) (g t.constraint t.here)

pub fails_at : (I : Instances) (c : Selection) (cs : List Constraint) (at : ℕ) (i : ClosedImplication) (p : Point) → IsClosedAs (assigned I c) cs at i
    → IsCounterexample i p → (k : Constraint) → slice_get cs at ≡ Some k → FailsAt (assigned I c) k p
fails_at I c cs at i p h x k e =
    let y : IsCounterexample (closed_under (assigned I c) k) p = subst (λ j. IsCounterexample j p) (closed_as (assigned I c) cs at i k h e) x in
    record { point = y.is_point; meets = y.hypotheses; against = y.goal }

pub demand_there : (I : Instances) (c : Selection) (cs : List Constraint) (at : ℕ) (i : ClosedImplication) (q : Part) (point : code.Point) → IsClosedAs (assigned I c) cs at i
    → IsCounterexample i (as_point point) → ((k : Constraint) → slice_get cs at ≡ Some k → k.goal ≡ q) → IsDemand q → FailsThere I cs c at (Demand point)
demand_there I c cs at i q point h x g d k e = (subst IsDemand (sym (g k e)) d, fails_at I c cs at i (as_point point) h x k e)

pub flow_there : (I : Instances) (c : Selection) (cs : List Constraint) (at : ℕ) (i : ClosedImplication) (u : ℕ) (σ : Subst) (p : Point) (numbers : List ℕ)
    → IsClosedAs (assigned I c) cs at i → IsCounterexample i p → ((k : Constraint) → slice_get cs at ≡ Some k → k.goal ≡ unknown u σ)
    → AreRefuted (c u) p σ (I u) numbers → FlowFailsThere I cs c at numbers
flow_there I c cs at i u σ p numbers h x g r k e = record {
  point = p;
  fails = fails_at I c cs at i p h x k e;
  number = u;
  by = σ;
  goal = g k e;
  refuted = r;
}
