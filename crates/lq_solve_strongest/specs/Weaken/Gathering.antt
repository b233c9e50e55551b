-- Which implications can be gathered with all instances in place, and the first that can't.
use Rattle.std.specs.Prelude.{◌≡◌, ℕ, ◌<◌, List, Some, slice_get}
use Rattle.lq_prover_proof_tree.specs.Literals.Gathered.{CanBeGathered, IsFirstPast}
use Rattle.lq_prover_proof_tree.specs.Literals.Sources.{sources_of}
use Rattle.lq_refined_types.specs.Parts.Constraint.{Constraint}
use Rattle.lq_logic_predicates.specs.Formula.{Formula}
use Rattle.lq_solve_fixpoint.specs.Questions.Assigned.{closed_under}
use Rattle.lq_solve_fixpoint.specs.Weakening.Judging.{Instances}

-- the implication of this number can be gathered
abbrev pub IsGatheredAt : Instances → List Constraint → ℕ → Type 0
IsGatheredAt I cs at = (k : Constraint) → slice_get cs at ≡ Some k → CanBeGathered (closed_under I k)

-- the first predicate of the implication of this number with a literal that can't be gathered
abbrev pub IsPastAt : Instances → List Constraint → ℕ → Formula → Type 0
IsPastAt I cs at p = (k : Constraint) → slice_get cs at ≡ Some k → IsFirstPast (sources_of (closed_under I k)) p

abbrev pub AreGathered : Instances → List Constraint → Type 0
AreGathered I cs = (at : ℕ) → IsGatheredAt I cs at

-- the first implication with a literal that can't be gathered, and its first predicate with such a literal
pub record IsFirstUngathered (I : Instances) (cs : List Constraint) (at : ℕ) (p : Formula) : Type 0 where
  pub constraint : Constraint
  pub here : slice_get cs at ≡ Some constraint
  pub past : IsFirstPast (sources_of (closed_under I constraint)) p
  pub before : (i : ℕ) → i < at → IsGatheredAt I cs i

-- where one is the first that can't be gathered, not all can
abbrev pub FirstIsNot : Type 0
FirstIsNot = (I : Instances) (cs : List Constraint) (at : ℕ) (p : Formula) → IsFirstUngathered I cs at p → AreGathered I cs → ⊥
