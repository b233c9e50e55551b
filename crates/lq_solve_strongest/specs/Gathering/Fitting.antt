-- Implications that can be gathered, all instances in place.
use Rattle.std.specs.Prelude.{◌≡◌, ◌<◌, ℕ, List, All, Some, slice_get}
use Rattle.lq_refined_substitution.specs.Implications.Views.{environment_in}
use Rattle.lq_refined_substitution.specs.declared.implications.implication.Implication.{Implication}
use Rattle.lq_solve_strongest.specs.SmallForms.Narrow.{IsNarrow}
use Rattle.lq_refined_types.specs.Parts.Assignment.{Assignment, part_under, parts_under}
use Rattle.lq_refined_types.specs.Parts.Constraint.{Constraint}
use Rattle.lq_refined_types.specs.Parts.Part.{Parts}
use Rattle.lq_logic_predicates.specs.Comparison.{CanGather}
use Rattle.lq_logic_predicates.specs.Literals.{implication_literals}
use Rattle.lq_solve_fixpoint.specs.Questions.Assigned.{closed_under}
use Rattle.lq_refined_substitution.specs.Substitution.Views.{part_view, parts_view}

-- each literal of each implication can be gathered
abbrev pub AllGather : Assignment → List Constraint → Type 0
AllGather A cs = (at : ℕ) (k : Constraint) → slice_get cs at ≡ Some k → All CanGather (implication_literals (closed_under A k))

-- what the hypotheses of the first n environments stand for is narrow
abbrev pub AreNarrowEnvironments : Assignment → List Parts → ℕ → Type 0
AreNarrowEnvironments A es n = (e : ℕ) → e < n → All IsNarrow (parts_under A (environment_in es e))

-- what an implication has besides the hypotheses of its environment
pub record IsNarrowImplication (A : Assignment) (i : Implication) : Type 0 where
  pub left : All IsNarrow (parts_under A (parts_view i.left))
  pub goal : All IsNarrow (part_under A (part_view i.goal))

abbrev pub AreNarrowImplications : Assignment → List Implication → ℕ → Type 0
AreNarrowImplications A is n = (at : ℕ) (i : Implication) → at < n → slice_get is at ≡ Some i → IsNarrowImplication A i
