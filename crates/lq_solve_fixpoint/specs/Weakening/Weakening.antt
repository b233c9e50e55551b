-- What holds while flows are asked.
use Rattle.std.specs.Prelude.{◌≡◌, ℕ, List, Some, slice_get}
use Rattle.lq_refined_types.specs.Parts.Constraint.{Constraint, IfFlow, IsMet, FlowsMet}
use Rattle.lq_refined_types.specs.Parts.Flowing.{Selection, IsWithin, assigned}
use Rattle.lq_solve_fixpoint.specs.Weakening.Among.{IsAmong}
use Rattle.lq_solve_fixpoint.specs.Weakening.Judging.{Instances}

-- no selection that makes all flows valid has more, and each flow that doesn't wait is valid
pub record IsWeakening (I : Instances) (cs : List Constraint) (c : Selection) (waiting : List ℕ) : Type 0 where
  pub greatest : (d : Selection) → FlowsMet (assigned I d) cs → IsWithin I d c
  pub met : (at : ℕ) (k : Constraint) → slice_get cs at ≡ Some k → (IsAmong waiting at → ⊥) → IfFlow k.goal (IsMet (assigned I c) k)
