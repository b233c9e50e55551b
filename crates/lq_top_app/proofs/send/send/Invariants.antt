use Rattle.std.proofs.Common.{◌≤◌, length}
use Rattle.lq_top_app.proofs.Sending.{SentTo}
use Rattle.lq_top_app.proofs.send.send.Given as goal

abbrev pub invariant-loop-rest : goal.invariant-loop-rest
invariant-loop-rest g l = SentTo l.report l.rest (g.K.Sink.taken l.fn.out) (g.K.Sink.taken l.out) × (g.K.Sink.faults l.fn.out ≤ g.K.Sink.faults l.out)

abbrev pub decreases-loop-rest : goal.decreases-loop-rest
decreases-loop-rest g l = length l.rest
