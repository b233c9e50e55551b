-- What is left, and what was taken.
use Rattle.std.proofs.Common.{◌≡◌, ◌++◌, length, map, reverse}
use Rattle.lq_refined_substitution.specs.Implications.Views.{hypotheses_left}
use Rattle.lq_refined_substitution.specs.Substitution.Views.{part_view}
use Rattle.lq_solve_fixpoint.proofs.questions.hypotheses.taken.Given as goal

abbrev pub invariant-loop-part : goal.invariant-loop-part
invariant-loop-part l = hypotheses_left l.initial.left ≡ hypotheses_left l.left ++ reverse (map (λ p. part_view p.now) l.parts.items)

abbrev pub decreases-loop-part : goal.decreases-loop-part
decreases-loop-part l = length (hypotheses_left l.left)
