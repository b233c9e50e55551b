use Rattle.lq_solve_strongest.proofs.WeakenLemmas.Below.{parts_step, parts_whole}
use Rattle.lq_solve_strongest.proofs.weaken.unknowns.past_parts.Goals as goal

pub loop-part-preserved : goal.loop-part-preserved
loop-part-preserved c =
    parts_step c.args.parts.now c.loop-part.part-index c.part-item.result c.args.count c.loop-part.past c.in_ok-past.past c.loop-part-test.true c.part-item.is c.loop-part.invariant c.in_ok-past.ensures

pub returns : goal.returns
returns c = parts_whole c.args.parts.now c.loop-part.part-index c.args.count c.loop-part.past c.loop-part-test.false c.loop-part.invariant
