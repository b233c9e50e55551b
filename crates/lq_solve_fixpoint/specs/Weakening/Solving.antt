-- The strongest solution, or the first demand that fails under the greatest selection for the flows.
use Rattle.std.specs.Prelude.{◌≡◌, ℕ, List, length, Some, slice_get}
use Rattle.lq_refined_types.specs.Parts.Constraint.{Constraint, AllMet, IsDemand, IsFirstFailing, IsMet}
use Rattle.lq_refined_types.specs.Parts.Flowing.{Selection, IsFlowing, IsStrongest, assigned}
use Rattle.lq_refined_types.specs.Parts.Refuting.{FailsAt}
use Rattle.lq_logic_points.specs.Values.{as_point}
use Rattle.lq_logic_points.specs.declared.point.Point.{Point}
use Rattle.lq_solve_fixpoint.specs.Weakening.Chosen.{chosen_in}
use Rattle.lq_solve_fixpoint.specs.Weakening.Index.{count_or_zero}
use Rattle.lq_solve_fixpoint.specs.Weakening.Judging.{Instances}
use Rattle.lq_solve_fixpoint.specs.declared.weakening.solving.Solved.{Solved}
use Rattle.lq_solve_fixpoint.specs.declared.weakening.solving.Solved.TheVariants.{Strongest, NoSolution}

-- as many as there are instances of each unknown
abbrev pub AreCounts : Instances → List ℕ → Type 0
AreCounts I counts = (u : ℕ) → length (I u) ≡ count_or_zero (slice_get counts u)

-- no selection makes all implications valid: the first demand that fails under the greatest one for the flows fails at the point
pub record HasNoSolution (I : Instances) (cs : List Constraint) (c : Selection) (at : ℕ) (p : Point) : Type 0 where
  pub flowing : IsFlowing I cs c
  pub first : IsFirstFailing (assigned I c) cs at
  pub fails : (k : Constraint) → slice_get cs at ≡ Some k → FailsAt (assigned I c) k (as_point p)
  pub none_solves : (d : Selection) → AllMet (assigned I d) cs → ⊥

abbrev pub IsSolved : Instances → List Constraint → Solved → Type 0
IsSolved I cs (Strongest c) = IsStrongest I cs (chosen_in c)
IsSolved I cs (NoSolution c at p) = HasNoSolution I cs (chosen_in c) at p

-- the implication of the number, where it is a demand, is valid
abbrev pub DemandMet : Instances → List Constraint → Selection → ℕ → Type 0
DemandMet I cs c at = (k : Constraint) → slice_get cs at ≡ Some k → IsDemand k.goal → IsMet (assigned I c) k

-- it is a demand and fails at the point
pub record DemandFails (I : Instances) (cs : List Constraint) (c : Selection) (at : ℕ) (p : Point) : Type 0 where
  pub constraint : Constraint
  pub here : slice_get cs at ≡ Some constraint
  pub demand : IsDemand constraint.goal
  pub fails : (k : Constraint) → slice_get cs at ≡ Some k → FailsAt (assigned I c) k (as_point p)

-- each demand is valid
abbrev pub DemandsMet : Instances → List Constraint → Selection → Type 0
DemandsMet I cs c = (i : ℕ) (k : Constraint) → slice_get cs i ≡ Some k → IsDemand k.goal → IsMet (assigned I c) k

-- the first demand that isn't valid, which fails at the point
pub record IsFailingDemand (I : Instances) (cs : List Constraint) (c : Selection) (at : ℕ) (p : Point) : Type 0 where
  pub first : IsFirstFailing (assigned I c) cs at
  pub fails : (k : Constraint) → slice_get cs at ≡ Some k → FailsAt (assigned I c) k (as_point p)
