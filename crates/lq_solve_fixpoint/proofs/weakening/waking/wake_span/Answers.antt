use Rattle.lq_solve_fixpoint.proofs.WeakeningLemmas.Inserting.{wakes_empty, wakes_next, wakes_run}
use Rattle.lq_solve_fixpoint.proofs.weakening.waking.wake_span.Goals as goal

pub loop-at-init : goal.loop-at-init
loop-at-init c = wakes_empty c.args.goals.now c.args.span.start c.args.waiting.now.keys

pub loop-at-preserved : goal.loop-at-preserved
loop-at-preserved c =
    wakes_next c.args.goals.now c.args.span.start c.loop-at.at c.args.waiting.now.keys c.loop-at.waiting.keys c.wake.new.waiting.keys c.loop-at.invariant c.in_ok-wake.ensures

pub returns : goal.returns
returns c =
    wakes_run c.args.goals.now c.args.span.start c.args.span.end c.loop-at.at c.min-at-end.result c.args.waiting.now.keys c.loop-at.waiting.keys c.loop-at.invariant c.min-at-end.ensures c.loop-at-test.false
