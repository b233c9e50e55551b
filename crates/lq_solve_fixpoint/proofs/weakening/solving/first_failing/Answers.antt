use Rattle.std.proofs.Common.{IfSome, subst}
use Rattle.lq_solve_fixpoint.specs.Weakening.Chosen.{chosen_in}
use Rattle.lq_solve_fixpoint.specs.Weakening.Solving.{DemandFails}
use Rattle.lq_solve_fixpoint.proofs.WeakeningLemmas.Looping.{demands_met, failing_here}
use Rattle.lq_solve_fixpoint.proofs.weakening.solving.first_failing.Goals as goal

pub returns-in-Ok-Some-clause-some : goal.returns-in-Ok-Some-clause-some
returns-in-Ok-Some-clause-some g c =
    let J = g.J.Judge.instances c.loop-at.judge in
    let ds = g.J.Judge.constraints c.loop-at.judge in
    let f : DemandFails J ds (chosen_in c.args.chosen.now) c.loop-at.at c.in-Ok-Some.point =
    subst (λ o. IfSome o (DemandFails J ds (chosen_in c.args.chosen.now) c.loop-at.at)) c.in-Ok-Some.field-0-is c.in-Ok-Some.ensures.some in
    failing_here (g.J.Judge.instances c.args.judge.now) J (g.J.Judge.constraints c.args.judge.now) ds (chosen_in c.args.chosen.now) c.loop-at.at c.in-Ok-Some.point c.loop-at.invariant.1 c.loop-at.invariant.2 f c.loop-at.invariant.0

pub returns-clause-none : goal.returns-clause-none
returns-clause-none g c =
    demands_met (g.J.Judge.instances c.args.judge.now) (g.J.Judge.constraints c.args.judge.now) (chosen_in c.args.chosen.now) c.args.goals.now c.loop-at.at c.requires.goals c.loop-at-test.false c.loop-at.invariant.0
