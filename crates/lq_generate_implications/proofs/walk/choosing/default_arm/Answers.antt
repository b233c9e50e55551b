use Rattle.std.proofs.Common.{sym, ◌∙◌}
use Rattle.lq_generate_implications.proofs.WalkLemmas.Chosen.{default-first, default-found, default-next, default-none}
use Rattle.lq_generate_implications.proofs.walk.choosing.default_arm.Goals as goal

pub loop-at-init : goal.loop-at-init
loop-at-init c = default-first c.args.arms.now

pub loop-at-preserved : goal.loop-at-preserved
loop-at-preserved c =
    default-next c.args.arms.now c.loop-at.at c.index-arms-at.result c.loop-at-test.true
    (sym c.takes_all.ensures ∙ c.if-takes_all.false) c.loop-at.invariant

pub returns-then-takes_all : goal.returns-then-takes_all
returns-then-takes_all c =
    default-found c.args.arms.now c.loop-at.at c.index-arms-at.result c.loop-at-test.true
    (sym c.takes_all.ensures ∙ c.if-takes_all.true) c.loop-at.invariant

pub returns : goal.returns
returns c = default-none c.args.arms.now c.loop-at.at c.loop-at-test.false c.loop-at.invariant
