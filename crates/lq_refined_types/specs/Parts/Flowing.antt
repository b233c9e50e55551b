-- Selections of instances, the greatest one that makes all flows valid, and the strongest solution.
use Rattle.std.specs.Prelude.{◌≡◌, ℕ, suc, ◌<◌, Bool, true, cond, ◌||◌, ◌⊎◌, List, [], ◌∷◌, length}
use Rattle.lq_logic_predicates.specs.Formula.{Formula}
use Rattle.lq_refined_types.specs.Parts.Assignment.{Assignment}
use Rattle.lq_refined_types.specs.Parts.Constraint.{Constraint, AllMet, FlowsMet, IsFirstFailing}

-- for each unknown and number of one of its instances, whether it is chosen
abbrev pub Selection : Type 0
Selection = ℕ → ℕ → Bool

abbrev pub picked : (ℕ → Bool) → ℕ → List Formula → List Formula
picked f k [] = []
picked f k (p ∷ ps) = cond (f k) (p ∷ picked f (suc k) ps) (picked f (suc k) ps)

-- the chosen instances, in their order
abbrev pub assigned : (ℕ → List Formula) → Selection → Assignment
assigned I c u = picked (c u) 0 (I u)

abbrev pub united : Selection → Selection → Selection
united c d u k = c u k || d u k

-- each instance that the one chooses the other chooses too
abbrev pub IsWithin : (ℕ → List Formula) → Selection → Selection → Type 0
IsWithin I d c = (u k : ℕ) → k < length (I u) → d u k ≡ true → c u k ≡ true

-- the greatest selection that makes all flows valid
pub record IsFlowing (I : ℕ → List Formula) (cs : List Constraint) (c : Selection) : Type 0 where
  pub meets : FlowsMet (assigned I c) cs
  pub greatest : (d : Selection) → FlowsMet (assigned I d) cs → IsWithin I d c

-- the strongest solution: a selection that makes all implications valid, and the greatest such one
pub record IsStrongest (I : ℕ → List Formula) (cs : List Constraint) (c : Selection) : Type 0 where
  pub meets : AllMet (assigned I c) cs
  pub greatest : (d : Selection) → AllMet (assigned I d) cs → IsWithin I d c

-- what two selections make valid, their union makes valid
abbrev pub UnionMeets : Type 0
UnionMeets =
    (I : ℕ → List Formula) (cs : List Constraint) (c d : Selection) → FlowsMet (assigned I c) cs → FlowsMet (assigned I d) cs → FlowsMet (assigned I (united c d)) cs

-- whether the flows of a selection are valid can be told
abbrev pub Decides : (ℕ → List Formula) → List Constraint → Type 0
Decides I cs = (c : Selection) → FlowsMet (assigned I c) cs ⊎ (FlowsMet (assigned I c) cs → ⊥)

-- c holds each of the selections that makes the flows valid
abbrev pub HoldsEach : (ℕ → List Formula) → List Constraint → Selection → List Selection → Type 0
HoldsEach I cs c [] = Unit {0}
HoldsEach I cs c (d ∷ ds) = (FlowsMet (assigned I d) cs → IsWithin I d c) × HoldsEach I cs c ds

-- of any list of selections, one makes the flows valid and holds each that does
abbrev pub LargestExists : Type 0
LargestExists =
    (I : ℕ → List Formula) (cs : List Constraint) → Decides I cs → (ds : List Selection) → (c : Selection) × FlowsMet (assigned I c) cs × HoldsEach I cs c ds

-- where some selection makes all implications valid, the greatest one for the flows does, and is the strongest solution
abbrev pub FlowingSolves : Type 0
FlowingSolves =
    (I : ℕ → List Formula) (cs : List Constraint) (c d : Selection) → IsFlowing I cs c → AllMet (assigned I d) cs → IsStrongest I cs c

-- so where a demand isn't valid under that one, there is no solution
abbrev pub FailingRefutes : Type 0
FailingRefutes =
    (I : ℕ → List Formula) (cs : List Constraint) (c d : Selection) (at : ℕ) → IsFlowing I cs c → IsFirstFailing (assigned I c) cs at → AllMet (assigned I d) cs → ⊥

-- and where every demand is valid under it, it is the strongest solution
abbrev pub FlowingIsStrongest : Type 0
FlowingIsStrongest = (I : ℕ → List Formula) (cs : List Constraint) (c : Selection) → IsFlowing I cs c → AllMet (assigned I c) cs → IsStrongest I cs c
