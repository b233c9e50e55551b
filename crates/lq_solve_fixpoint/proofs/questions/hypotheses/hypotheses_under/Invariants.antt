-- What was put back, and what is still to be.
use Rattle.std.proofs.Common.{◌≡◌, ◌++◌, map, reverse, vec_len}
use Rattle.lq_refined_substitution.specs.Implications.Views.{hypotheses_left}
use Rattle.lq_refined_types.specs.Parts.Assignment.{parts_under}
use Rattle.lq_logic_predicates.specs.PredView.{formula_of, pred_items}
use Rattle.lq_refined_substitution.specs.Substitution.Views.{part_view}
use Rattle.lq_solve_fixpoint.specs.Questions.Assigned.{assignment_of}
use Rattle.lq_solve_fixpoint.proofs.questions.hypotheses.hypotheses_under.Given as goal

abbrev pub invariant-loop-part : goal.invariant-loop-part
invariant-loop-part l =
    parts_under (assignment_of l.instances l.chosen) (hypotheses_left l.fn.left)
    ≡ map formula_of (pred_items l.preds) ++ parts_under (assignment_of l.instances l.chosen) (reverse (map (λ p. part_view p.now) l.parts.items))

abbrev pub decreases-loop-part : goal.decreases-loop-part
decreases-loop-part l = vec_len l.parts
