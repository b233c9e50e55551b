use Rattle.lq_refined_substitution.specs.Implications.Views.{hypotheses_left}
use Rattle.lq_refined_types.specs.Parts.Assignment.{part_under, parts_under}
use Rattle.lq_logic_predicates.specs.ClosedImplication.{MeetsEach}
use Rattle.lq_logic_predicates.specs.Points.{Point}
use Rattle.lq_solve_fixpoint.specs.Questions.Assigned.{assignment_of}
use Rattle.lq_refined_substitution.specs.Substitution.Views.{part_view}
use Rattle.lq_solve_facts.proofs.NearestLemmas.Meeting.{last_split}
use Rattle.lq_solve_facts.proofs.nearest.adding.add_last.Goals as goal

pub loop-init : goal.loop-init
loop-init c = record { holds = λ p h m. h; less = λ p m. m }

pub loop-preserved : goal.loop-preserved
loop-preserved c =
    let A = assignment_of c.args.instances.now c.args.chosen.now in
    let before = c.loop.invariant in
    let split : (p : Point) → MeetsEach p (parts_under A (hypotheses_left c.args.left.now)) → MeetsEach p (parts_under A (hypotheses_left c.take_last.new.self)) × MeetsEach p (part_under A (part_view c.in-Some.part.now))
    = λ p m. last_split A p (hypotheses_left c.loop.left) (hypotheses_left c.take_last.new.self) (part_view c.in-Some.part.now) c.in-Some.ensures (before.less p m) in
    record { holds = λ p h m. c.in_ok-add_part.ensures.held p (before.holds p h m) (split p m).1; less = λ p m. (split p m).0 }
