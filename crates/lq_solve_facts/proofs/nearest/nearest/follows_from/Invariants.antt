-- What is known holds where the hypotheses are met, and those that are left are met then.
use Rattle.lq_refined_substitution.specs.Implications.Views.{hypotheses_left}
use Rattle.lq_solve_facts.specs.Facts.Known.{Hold}
use Rattle.lq_refined_types.specs.Parts.Assignment.{parts_under}
use Rattle.lq_logic_predicates.specs.ClosedImplication.{MeetsEach}
use Rattle.lq_logic_predicates.specs.Points.{Point}
use Rattle.lq_solve_fixpoint.specs.Questions.Assigned.{assignment_of}
use Rattle.lq_solve_facts.proofs.nearest.nearest.follows_from.Given as goal

abbrev pub invariant-loop-round : goal.invariant-loop-round
invariant-loop-round l = record {
  holds : (p : Point) → Hold l.fn.known p → MeetsEach p (parts_under (assignment_of l.instances l.chosen) (hypotheses_left l.fn.left)) → Hold l.known p;
  less : (p : Point) → MeetsEach p (parts_under (assignment_of l.instances l.chosen) (hypotheses_left l.fn.left)) → MeetsEach p (parts_under (assignment_of l.instances l.chosen) (hypotheses_left l.left));
}
