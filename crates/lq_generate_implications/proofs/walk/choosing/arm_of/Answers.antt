use Rattle.std.proofs.Common.{sym, ◌∙◌}
use Rattle.lq_generate_implications.proofs.WalkLemmas.Chosen.{from-first, from-here, from-next, from-none}
use Rattle.lq_generate_implications.proofs.walk.choosing.arm_of.Goals as goal

pub loop-at-init : goal.loop-at-init
loop-at-init c = from-first c.args.constructor.0 c.args.arms.now

pub loop-at-preserved : goal.loop-at-preserved
loop-at-preserved c =
    from-next c.args.constructor.0 c.args.arms.now c.loop-at.at c.index-arms-at.result c.loop-at-test.true
    (sym c.is_arm_of.ensures ∙ c.if-is_arm_of.false) c.loop-at.invariant

pub returns-then-is_arm_of : goal.returns-then-is_arm_of
returns-then-is_arm_of c =
    from-here c.args.constructor.0 c.args.arms.now c.loop-at.at c.index-arms-at.result c.loop-at-test.true
    (sym c.is_arm_of.ensures ∙ c.if-is_arm_of.true) c.loop-at.invariant

pub returns : goal.returns
returns c = from-none c.args.constructor.0 c.args.arms.now c.loop-at.at c.loop-at-test.false c.loop-at.invariant
