-- All instances in place.
use Rattle.std.proofs.Common.{◌≡◌, ℕ, suc, ◌+◌, ◌<◌, ◌≤◌, Bool, true, false, cond, List, [], ◌∷◌, ◌++◌, length, map, refl, ap, ap₂, arith}
use Rattle.lq_refined_types.specs.Parts.Assignment.{all_joined, goal_under, part_under, parts_under}
use Rattle.lq_refined_types.specs.Parts.Constraint.{Constraint}
use Rattle.lq_refined_types.specs.Parts.Flowing.{Selection, assigned, picked}
use Rattle.lq_refined_types.specs.Parts.Part.{Part, known, unknown, Parts}
use Rattle.lq_refined_types.specs.Parts.Substitution.{formula_by}
use Rattle.lq_logic_predicates.specs.ClosedImplication.{ClosedImplication}
use Rattle.lq_logic_predicates.specs.Formula.{Formula}
use Rattle.lq_solve_fixpoint.specs.Questions.Assigned.{closed_under}
use Rattle.lq_solve_fixpoint.specs.Weakening.Judging.{Instances}
use Rattle.lq_solve_strongest.specs.Selections.Fewer.{HasAll}

picked_all : (f : ℕ → Bool) (k : ℕ) (qs : List Formula) → ((n : ℕ) → k ≤ n → n < k + length qs → f n ≡ true) → picked f k qs ≡ qs
picked_all f k [] h = refl
picked_all f k (q ∷ qs) h = by (f k) (h k (omega arith) (omega arith)) (picked_all f (suc k) qs (λ n a b. h n (omega (arith, a)) (omega (arith, b))))
  where
    by : (b : Bool) → b ≡ true → picked f (suc k) qs ≡ qs → cond b (q ∷ picked f (suc k) qs) (picked f (suc k) qs) ≡ q ∷ qs
    by true e r = ap (λ l. q ∷ l) r
    by false e r = absurd (cc)

assigned_all : (I : Instances) (c : Selection) → HasAll I c → (u : ℕ) → assigned I c u ≡ I u
assigned_all I c h u = picked_all (c u) 0 (I u) (λ n a b. h u n (omega (arith, b)))

part_all : (I : Instances) (c : Selection) → HasAll I c → (q : Part) → part_under (assigned I c) q ≡ part_under I q
part_all I c h (known p) = refl
part_all I c h (unknown u σ) = ap (map (formula_by σ)) (assigned_all I c h u)

parts_all : (I : Instances) (c : Selection) → HasAll I c → (hs : Parts) → parts_under (assigned I c) hs ≡ parts_under I hs
parts_all I c h [] = refl
parts_all I c h (q ∷ hs) = ap₂ (λ x y. x ++ y) (part_all I c h q) (parts_all I c h hs)

goal_all : (I : Instances) (c : Selection) → HasAll I c → (q : Part) → goal_under (assigned I c) q ≡ goal_under I q
goal_all I c h (known p) = refl
goal_all I c h (unknown u σ) = ap (λ l. all_joined (map (formula_by σ) l)) (assigned_all I c h u)

abbrev made : List Formula → Formula → ClosedImplication
made hs g = record { hypotheses = hs; goal = g }

pub closed_all : (I : Instances) (c : Selection) → HasAll I c → (k : Constraint) → closed_under (assigned I c) k ≡ closed_under I k
closed_all I c h k = ap₂ made (parts_all I c h k.hypotheses) (goal_all I c h k.goal)
