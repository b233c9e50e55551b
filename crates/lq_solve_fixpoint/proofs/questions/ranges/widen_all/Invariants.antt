-- The first so many implications are within the runs of their environments.
use Rattle.lq_refined_substitution.specs.Implications.Views.{implication_items}
use Rattle.lq_solve_fixpoint.proofs.QuestionsLemmas.Covering.{AreRangesBelow}
use Rattle.lq_solve_fixpoint.proofs.questions.ranges.widen_all.Given as goal

abbrev pub invariant-loop-at : goal.invariant-loop-at
invariant-loop-at l = AreRangesBelow l.at (implication_items l.implications) l.ranges
