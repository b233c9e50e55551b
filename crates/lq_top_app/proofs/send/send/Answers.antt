use Rattle.std.proofs.Common.{arith}
use Rattle.lq_top_app.proofs.Sending.{one_more}
use Rattle.lq_top_app.proofs.send.send.Goals as goal

pub loop-rest-preserved : goal.loop-rest-preserved
loop-rest-preserved g c = (
  one_more c.args.report.now c.loop-rest.rest.now _ c.in_ok-count.count _ (g.K.Sink.taken c.loop-rest.out) _ c.split_at.ensures.back c.in_ok-count.ensures.takes c.loop-rest.invariant.0,
  omega (arith, c.loop-rest.invariant.1, c.write.ensures.faults),
)
