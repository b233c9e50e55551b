-- What was added for the first so many parts.
use Rattle.std.proofs.Common.{map, take}
use Rattle.lq_refined_types.specs.Parts.Refuting.{Speak}
use Rattle.lq_refined_substitution.specs.Substitution.Views.{part_view}
use Rattle.lq_solve_fixpoint.specs.Questions.Covering.{Adds, Holds}
use Rattle.lq_solve_fixpoint.proofs.questions.spans.add_parts.Given as goal

abbrev pub invariant-loop-part : goal.invariant-loop-part
invariant-loop-part l = Adds (λ u k. Speak u (map part_view (take l.part-index l.parts)) × Holds l.span k) l.initial.spans l.spans
