-- A step of weakening.
use Rattle.std.proofs.Common.{◌≡◌, ◌⊎◌, inl, inr, ℕ, zero, suc, ◌<◌, length, slice_get, true, false, List, [], ◌∷◌, Option, Some, None, refl, sym, ap, subst}
use Rattle.lq_refined_types.specs.Parts.Assignment.{Assignment}
use Rattle.lq_refined_types.specs.Parts.Constraint.{Constraint, FlowsMet, IfFlow, IsMet}
use Rattle.lq_refined_types.specs.Parts.Flowing.{Selection, IsWithin, assigned}
use Rattle.lq_refined_types.specs.Parts.Part.{Part, known, unknown, Parts}
use Rattle.lq_refined_types.specs.Parts.Refuting.{FailsAt, OneIsRefuted, OthersStay, RefutedGo, IsUnknown, Speak, SpeaksOf, HasRefuted}
use Rattle.lq_refined_types.specs.Parts.Substitution.{Subst}
use Rattle.lq_logic_predicates.specs.Points.{Point}
use Rattle.std.specs.Global.{Vec}
use Rattle.lq_solve_fixpoint.specs.Weakening.Among.{IsAmong}
use Rattle.lq_solve_fixpoint.specs.Weakening.Chosen.{AreWithout}
use Rattle.lq_solve_fixpoint.specs.Weakening.Index.{AreCovered, AreGoals, IsWithinOne, goal_unknown, spans_at}
use Rattle.lq_solve_fixpoint.specs.Weakening.Judging.{AreRefuted, FlowFailsThere, HoldsThere, Instances, IsFailingFlow}
use Rattle.lq_solve_fixpoint.specs.Weakening.Waking.{IsFlowAt, Wakes}
use Rattle.lq_solve_fixpoint.specs.Weakening.Weakening.{IsWeakening}
use Rattle.lq_solve_fixpoint.specs.declared.weakening.span.Span.{Span}
use Rattle.lq_solve_fixpoint.proofs.WeakeningLemmas.Members.{among_or_not, same_or_not}

the : {X : Type 0} → X → Option X → X
the a None = a
the a (Some x) = x

some_is : {X : Type 0} (a b : X) → Some a ≡ Some b → a ≡ b
unfolding the
some_is a b h = ap (the a) h

true_false : true ≡ false → ⊥
true_false h = cc

both : {X : Type 0} {x y z : X} → x ≡ y → x ≡ z → z ≡ y
both p q = cc

-- a flow among flows that are valid
flow_met : (A : Assignment) (cs : List Constraint) (at : ℕ) (k : Constraint) → FlowsMet A cs → slice_get cs at ≡ Some k → IfFlow k.goal (IsMet A k)
flow_met A [] at k m e = absurd (cc)
flow_met A (c ∷ cs) zero k m e = subst (λ x. IfFlow x.goal (IsMet A x)) (some_is c k e) m.0
flow_met A (c ∷ cs) (suc at) k m e = flow_met A cs at k m.1 e

-- the goal of the implication of a number
pub goal_there : (cs : List Constraint) (goals : List (Option ℕ)) (at : ℕ) (k : Constraint) (g : Option ℕ) → AreGoals cs goals → slice_get cs at ≡ Some k
    → slice_get goals at ≡ Some g → goal_unknown k.goal ≡ g
goal_there [] [] at k g a e h = absurd (cc)
goal_there (c ∷ cs) (o ∷ goals) zero k g a e h =
    subst (λ x. goal_unknown x.goal ≡ g) (some_is c k e) (subst (λ y. goal_unknown c.goal ≡ y) (some_is o g h) a.0)
goal_there (c ∷ cs) (o ∷ goals) (suc at) k g a e h = goal_there cs goals at k g a.1 e h
goal_there [] (o ∷ goals) at k g a e h = absurd a
goal_there (c ∷ cs) [] at k g a e h = absurd a

-- there is an implication wherever there is a goal
pub record IsThere (cs : List Constraint) (at : ℕ) : Type 0 where
  pub constraint : Constraint
  pub here : slice_get cs at ≡ Some constraint

pub constraint_there : (cs : List Constraint) (goals : List (Option ℕ)) (at : ℕ) (g : Option ℕ) → AreGoals cs goals → slice_get goals at ≡ Some g → IsThere cs at
constraint_there [] [] at g a h = absurd (cc)
constraint_there (c ∷ cs) (o ∷ goals) zero g a h = record { constraint = c; here = refl }
constraint_there (c ∷ cs) (o ∷ goals) (suc at) g a h =
    let r : IsThere cs at = constraint_there cs goals at g a.1 h in record { constraint = r.constraint; here = r.here }
constraint_there [] (o ∷ goals) at g a h = absurd a
constraint_there (c ∷ cs) [] at g a h = absurd (cc)

pub same_lengths : (cs : List Constraint) (goals : List (Option ℕ)) → AreGoals cs goals → length cs ≡ length goals
same_lengths [] [] a = refl
same_lengths (c ∷ cs) (o ∷ goals) a = ap suc (same_lengths cs goals a.1)
same_lengths [] (o ∷ goals) a = absurd a
same_lengths (c ∷ cs) [] a = absurd a

-- the other way round: what is a flow has a goal
pub goal_here : (cs : List Constraint) (goals : List (Option ℕ)) (at : ℕ) (k : Constraint) (u : ℕ) → AreGoals cs goals → slice_get cs at ≡ Some k
    → goal_unknown k.goal ≡ Some u → slice_get goals at ≡ Some (Some u)
goal_here [] [] at k u a e h = absurd (cc)
goal_here (c ∷ cs) (o ∷ goals) zero k u a e h =
    let f : c ≡ k = some_is c k e in
    let g : goal_unknown c.goal ≡ Some u = subst (λ x. goal_unknown x.goal ≡ Some u) (sym f) h in
    ap Some (trans_sym a.0 g)
  where
    trans_sym : {X : Type 0} {x y z : X} → x ≡ y → x ≡ z → y ≡ z
    trans_sym p q = cc
goal_here (c ∷ cs) (o ∷ goals) (suc at) k u a e h = goal_here cs goals at k u a.1 e h
goal_here [] (o ∷ goals) at k u a e h = absurd a
goal_here (c ∷ cs) [] at k u a e h = absurd a

-- whether an implication speaks of an unknown can be told
unknown_or_not : (u : ℕ) (q : Part) → IsUnknown u q ⊎ (IsUnknown u q → ⊥)
unknown_or_not u (known p) = inr (λ h. h)
unknown_or_not u (unknown w σ) = same_or_not u w

speak_or_not : (u : ℕ) (qs : Parts) → Speak u qs ⊎ (Speak u qs → ⊥)
speak_or_not u [] = inr (λ h. h)
speak_or_not u (q ∷ qs) = by (unknown_or_not u q) (speak_or_not u qs)
  where
    neither : (IsUnknown u q → ⊥) → (Speak u qs → ⊥) → IsUnknown u q ⊎ Speak u qs → ⊥
    neither n m (inl e) = n e
    neither n m (inr h) = m h

    by : IsUnknown u q ⊎ (IsUnknown u q → ⊥) → Speak u qs ⊎ (Speak u qs → ⊥) → Speak u (q ∷ qs) ⊎ (Speak u (q ∷ qs) → ⊥)
    by (inl e) m = inl (inl e)
    by (inr n) (inl h) = inl (inr h)
    by (inr n) (inr m) = inr (neither n m)

speaks_or_not : (u : ℕ) (k : Constraint) → SpeaksOf u k ⊎ (SpeaksOf u k → ⊥)
speaks_or_not u k = by (speak_or_not u k.hypotheses) (unknown_or_not u k.goal)
  where
    neither : (Speak u k.hypotheses → ⊥) → (IsUnknown u k.goal → ⊥) → SpeaksOf u k → ⊥
    neither n m (inl e) = n e
    neither n m (inr h) = m h

    by : Speak u k.hypotheses ⊎ (Speak u k.hypotheses → ⊥) → IsUnknown u k.goal ⊎ (IsUnknown u k.goal → ⊥) → SpeaksOf u k ⊎ (SpeaksOf u k → ⊥)
    by (inl e) m = inl (inl e)
    by (inr n) (inl h) = inl (inr h)
    by (inr n) (inr m) = inr (neither n m)

-- of a known goal nothing is asked
pub if_flow_by : (q : Part) (M : Type 0) → ((u : ℕ) → goal_unknown q ≡ Some u → M) → IfFlow q M
if_flow_by (known p) M f = tt
if_flow_by (unknown u σ) M f = f u refl

of_flow : (q : Part) (M : Type 0) (u : ℕ) → goal_unknown q ≡ Some u → IfFlow q M → M
of_flow (known p) M u e m = absurd (cc)
of_flow (unknown w σ) M u e m = m

-- the flow of a number, its goal an unknown, fails at a point that refutes these instances
record FailsOf (I : Instances) (cs : List Constraint) (c : Selection) (at u : ℕ) (numbers : List ℕ) : Type 0 where
  pub hypotheses : Parts
  pub by : Subst
  pub point : Point
  pub here : slice_get cs at ≡ Some record { hypotheses = hypotheses; goal = unknown u by }
  pub fails : FailsAt (assigned I c) (record { hypotheses = hypotheses; goal = unknown u by }) point
  pub refuted : AreRefuted (c u) point by (I u) numbers

-- whichever unknown the goal is said to be, it is the flow's
fails_of_goal : (I : Instances) (cs : List Constraint) (c : Selection) (at u w : ℕ) (hs : Parts) (q : Part) (σ : Subst) (p : Point) (numbers : List ℕ)
    → slice_get cs at ≡ Some record { hypotheses = hs; goal = q } → goal_unknown q ≡ Some u → FailsAt (assigned I c) (record { hypotheses = hs; goal = q }) p
    → q ≡ unknown w σ → AreRefuted (c w) p σ (I w) numbers → FailsOf I cs c at u numbers
fails_of_goal I cs c at u w hs q σ p numbers e g f i r =
    record {
      hypotheses = hs;
      by = σ;
      point = p;
      here = subst (λ x. slice_get cs at ≡ Some record { hypotheses = hs; goal = x }) is e;
      fails = subst (λ x. FailsAt (assigned I c) (record { hypotheses = hs; goal = x }) p) is f;
      refuted = subst (λ x. AreRefuted (c x) p σ (I x) numbers) same r;
    }
  where
    same : w ≡ u
    same = some_is w u (subst (λ x. goal_unknown x ≡ Some u) i g)

    is : q ≡ unknown u σ
    is = subst (λ x. q ≡ unknown x σ) same i

fails_of : (I : Instances) (cs : List Constraint) (goals : List (Option ℕ)) (c : Selection) (at u : ℕ) (numbers : List ℕ)
    → AreGoals cs goals → slice_get goals at ≡ Some (Some u) → FlowFailsThere I cs c at numbers → FailsOf I cs c at u numbers
fails_of I cs goals c at u numbers ag h fails =
    let there : IsThere cs at = constraint_there cs goals at (Some u) ag h in
    let k : Constraint = there.constraint in
    let f : IsFailingFlow I c k numbers = fails k there.here in
    fails_of_goal I cs c at u f.number k.hypotheses k.goal f.by f.point numbers there.here (goal_there cs goals at k (Some u) ag there.here h) f.fails f.goal f.refuted

module _ (go : RefutedGo) (others : OthersStay) (I : Instances) (cs : List Constraint) (goals : List (Option ℕ)) (spans : List (Vec Span)) where
  -- a flow that fails at a point: what the point refutes is taken out, and what speaks of its unknown waits
  step_fails : (at u : ℕ) (hs : Parts) (σ : Subst) (p : Point) (c d : Selection) (numbers ks ls : List ℕ)
      → AreGoals cs goals → AreCovered cs spans → slice_get cs at ≡ Some record { hypotheses = hs; goal = unknown u σ }
      → FailsAt (assigned I c) (record { hypotheses = hs; goal = unknown u σ }) p → AreRefuted (c u) p σ (I u) numbers → AreWithout u numbers c d
      → Wakes goals (IsWithinOne (spans_at spans u)) ks ls → IsWeakening I cs c (at ∷ ks) → IsWeakening I cs d ls
  step_fails at u hs σ p c d numbers ks ls ag ac e fails refuted without wakes w = record { greatest = greatest; met = met }
    where
      greatest : (s : Selection) → FlowsMet (assigned I s) cs → IsWithin I s d
      greatest s m v n r t = by (same_or_not v u) (among_or_not numbers n)
        where
          chosen : c v n ≡ true
          chosen = w.greatest s m v n r t

          stays : (v ≡ u → IsAmong numbers n → ⊥) → d v n ≡ true
          stays apart = let x : d v n ≡ c v n = without.others v n apart in let y : c v n ≡ true = chosen in cc

          by : (v ≡ u) ⊎ (v ≡ u → ⊥) → IsAmong numbers n ⊎ (IsAmong numbers n → ⊥) → d v n ≡ true
          by (inl i) (inl h) =
              absurd (go I c s hs u σ p n fails (refuted.each n h) (w.greatest s m) (flow_met (assigned I s) cs at (record { hypotheses = hs; goal = unknown u σ }) m e) (subst (λ x. s x n ≡ true) i t))
          by (inl i) (inr h) = stays (λ _. h)
          by (inr i) h = stays (λ j _. i j)

      met : (j : ℕ) (k : Constraint) → slice_get cs j ≡ Some k → (IsAmong ls j → ⊥) → IfFlow k.goal (IsMet (assigned I d) k)
      met j k x n = if_flow_by k.goal (IsMet (assigned I d) k) flow
        where
          flow : (v : ℕ) → goal_unknown k.goal ≡ Some v → IsMet (assigned I d) k
          flow v g = by (speaks_or_not u k)
            where
              is_flow : IsFlowAt goals j
              is_flow = record { goal = v; here = goal_here cs goals j k v ag x g }

              by : SpeaksOf u k ⊎ (SpeaksOf u k → ⊥) → IsMet (assigned I d) k
              by (inl s) = absurd (n (wakes.woken j (ac u j k x s) is_flow))
              by (inr s) = others I c d k alike (of_flow k.goal (IsMet (assigned I c) k) v g (w.met j k x waits))
                where
                  alike : (z : ℕ) → SpeaksOf z k → (i : ℕ) → i < length (I z) → c z i ≡ d z i
                  alike z sp i r = sym (without.others z i (λ y _. s (subst (λ a. SpeaksOf a k) y sp)))

                  waits : IsAmong (at ∷ ks) j → ⊥
                  waits (inl i) =
                      s (inr (subst (λ y. IsUnknown u y.goal) (some_is (record { hypotheses = hs; goal = unknown u σ }) k (both (subst (λ y. slice_get cs y ≡ Some k) (sym i) x) e)) refl))
                  waits (inr h) = n (wakes.kept j h)

-- what a point refutes of a flow's goal is something that was chosen
pub one_chosen : (one : OneIsRefuted) (I : Instances) (cs : List Constraint) (goals : List (Option ℕ)) (c : Selection) (at u : ℕ) (numbers : List ℕ)
    → AreGoals cs goals → slice_get goals at ≡ Some (Some u) → FlowFailsThere I cs c at numbers → (x y : ℕ) → ((k : ℕ) → IsAmong numbers k → c u k ≡ true → x < y) → x < y
one_chosen one I cs goals c at u numbers ag h fails x y falls =
    let f : FailsOf I cs c at u numbers = fails_of I cs goals c at u numbers ag h fails in
    let r : HasRefuted (c u) f.point f.by (I u) = one I c f.hypotheses u f.by f.point f.fails in
    falls r.number (f.refuted.all r.number r.is_chosen r.refuted) r.is_chosen

-- the same step, of the flow of a number
pub step_there : (go : RefutedGo) (others : OthersStay) (I : Instances) (cs : List Constraint) (goals : List (Option ℕ)) (spans : List (Vec Span))
    (at u : ℕ) (c d : Selection) (numbers ks ls : List ℕ) → AreGoals cs goals → AreCovered cs spans → slice_get goals at ≡ Some (Some u) → FlowFailsThere I cs c at numbers
    → AreWithout u numbers c d → Wakes goals (IsWithinOne (spans_at spans u)) ks ls → IsWeakening I cs c (at ∷ ks) → IsWeakening I cs d ls
step_there go others I cs goals spans at u c d numbers ks ls ag ac h fails without wakes w =
    let f : FailsOf I cs c at u numbers = fails_of I cs goals c at u numbers ag h fails in
    step_fails go others I cs goals spans at u f.hypotheses f.by f.point c d numbers ks ls ag ac f.here f.fails f.refuted without wakes w
