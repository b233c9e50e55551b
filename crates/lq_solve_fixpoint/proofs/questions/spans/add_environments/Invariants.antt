-- What of the environments is still to be left.
use Rattle.std.proofs.Common.{length}
use Rattle.lq_refined_substitution.specs.Implications.Views.{environment_lists}
use Rattle.lq_solve_fixpoint.proofs.QuestionsLemmas.Leaving.{AreLeft}
use Rattle.lq_solve_fixpoint.proofs.questions.spans.add_environments.Given as goal

abbrev pub invariant-loop-env : goal.invariant-loop-env
invariant-loop-env l = AreLeft (environment_lists l.implications) (length (environment_lists l.implications)) l.initial.ranges l.initial.spans l.env l.ranges l.spans
