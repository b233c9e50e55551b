-- What is answered of an implication whose unknowns stand for chosen instances.
use Rattle.std.specs.Prelude.{◌≡◌, ℕ, Bool, true, List, Some, slice_get}
use Rattle.lq_refined_types.specs.Parts.Constraint.{Constraint, IsDemand, IsMet}
use Rattle.lq_refined_types.specs.Parts.Flowing.{Selection, assigned}
use Rattle.lq_refined_types.specs.Parts.Part.{unknown}
use Rattle.lq_refined_types.specs.Parts.Refuting.{FailsAt, IsRefuted}
use Rattle.lq_refined_types.specs.Parts.Substitution.{Subst}
use Rattle.lq_logic_points.specs.Values.{as_point}
use Rattle.lq_logic_predicates.specs.Formula.{Formula}
use Rattle.lq_logic_predicates.specs.Points.{Point}
use Rattle.lq_solve_fixpoint.specs.Weakening.Among.{IsAmong}
use Rattle.lq_logic_predicates.specs.declared.pred.Stop.{Stop}
use Rattle.lq_solve_fixpoint.specs.declared.weakening.error.SolveError.{SolveError}
use Rattle.lq_solve_fixpoint.specs.declared.weakening.error.SolveError.TheVariants.{At, Memory}
use Rattle.lq_solve_fixpoint.specs.declared.weakening.judge.Asked.{Asked}
use Rattle.lq_solve_fixpoint.specs.declared.weakening.judge.Asked.TheVariants.{Holds, Fails}
use Rattle.lq_solve_fixpoint.specs.declared.weakening.judge.Failure.{Failure}
use Rattle.lq_solve_fixpoint.specs.declared.weakening.judge.Failure.TheVariants.{Demand, Flow}

-- for each unknown its instances
abbrev pub Instances : Type 0
Instances = ℕ → List Formula

-- these are the chosen instances that are refuted at the point
pub record AreRefuted (chosen : ℕ → Bool) (p : Point) (σ : Subst) (instances : List Formula) (numbers : List ℕ) : Type 0 where
  pub chosen_each : (k : ℕ) → IsAmong numbers k → chosen k ≡ true
  pub each : (k : ℕ) → IsAmong numbers k → IsRefuted p σ instances k
  pub all : (k : ℕ) → chosen k ≡ true → IsRefuted p σ instances k → IsAmong numbers k

-- the implication is a flow and fails at some point, which refutes these of the chosen instances of its goal
pub record IsFailingFlow (I : Instances) (c : Selection) (k : Constraint) (numbers : List ℕ) : Type 0 where
  pub point : Point
  pub fails : FailsAt (assigned I c) k point
  pub number : ℕ
  pub by : Subst
  pub goal : k.goal ≡ unknown number by
  pub refuted : AreRefuted (c number) point by (I number) numbers

-- a demand fails at the point, or a flow at some point that refutes the instances
abbrev pub IsFailure : Instances → Selection → Constraint → Failure → Type 0
IsFailure I c k (Demand point) = IsDemand k.goal × FailsAt (assigned I c) k (as_point point)
IsFailure I c k (Flow numbers) = IsFailingFlow I c k numbers.items

-- of the implication of this number
abbrev pub HoldsThere : Instances → List Constraint → Selection → ℕ → Type 0
HoldsThere I cs c at = (k : Constraint) → slice_get cs at ≡ Some k → IsMet (assigned I c) k

abbrev pub FailsThere : Instances → List Constraint → Selection → ℕ → Failure → Type 0
FailsThere I cs c at f = (k : Constraint) → slice_get cs at ≡ Some k → IsFailure I c k f

abbrev pub FlowFailsThere : Instances → List Constraint → Selection → ℕ → List ℕ → Type 0
FlowFailsThere I cs c at numbers = (k : Constraint) → slice_get cs at ≡ Some k → IsFailingFlow I c k numbers

abbrev pub IfHolds : Asked → Type 0 → Type 0
IfHolds Holds X = X
IfHolds (Fails f) X = Unit {0}

abbrev pub IfFails : Asked → (Failure → Type 0) → Type 0
IfFails Holds P = Unit {0}
IfFails (Fails f) P = P f

-- a stop comes of the implication that it names
abbrev pub StopsAt : (ℕ → Stop → Type 0) → SolveError → Type 0
StopsAt M (At i stop) = M i stop
StopsAt M Memory = Unit {0}
