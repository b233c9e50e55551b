use Rattle.lq_types_unify.proofs.Seating.{opened_none, opened_more}
use Rattle.lq_types_unify.proofs.copying.open_all.Goals as goal

pub loop-init : goal.loop-init
loop-init c = opened_none c.args.arena.now c.requires

pub loop-preserved : goal.loop-preserved
loop-preserved c = opened_more c.args.arena.now c.loop.arena c.open.new.self c.loop.counter c.in_ok-open.field-0 c.loop.invariant c.in_ok-open.ensures.added
