-- What was added for the first so many implications.
use Rattle.std.proofs.Common.{◌<◌}
use Rattle.lq_refined_substitution.specs.Implications.Views.{implication_items}
use Rattle.lq_solve_fixpoint.specs.Questions.Covering.{Adds, SpeaksItself}
use Rattle.lq_solve_fixpoint.proofs.questions.spans.add_implications.Given as goal

abbrev pub invariant-loop-at : goal.invariant-loop-at
invariant-loop-at l = Adds (λ u k. (k < l.at) × SpeaksItself (implication_items l.implications) u k) l.initial.spans l.spans
