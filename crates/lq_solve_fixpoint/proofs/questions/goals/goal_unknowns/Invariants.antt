-- The goals so far.
use Rattle.std.proofs.Common.{map, take}
use Rattle.lq_refined_substitution.specs.Implications.Views.{environment_lists, implication_items}
use Rattle.lq_solve_fixpoint.specs.Weakening.Index.{AreGoals}
use Rattle.lq_solve_fixpoint.proofs.QuestionsLemmas.Unknowns.{constraint_in}
use Rattle.lq_solve_fixpoint.proofs.questions.goals.goal_unknowns.Given as goal

abbrev pub invariant-loop-at : goal.invariant-loop-at
invariant-loop-at l = AreGoals (map (constraint_in (environment_lists l.implications)) (take l.at (implication_items l.implications))) l.goals.items
