use Rattle.std.proofs.Common.{take}
use Rattle.lq_prover_case.specs.State.Stored.{AllHoldAt}
use Rattle.lq_prover_case.proofs.state.holding.all_hold.Given as goal

abbrev pub invariant-loop-index : goal.invariant-loop-index
invariant-loop-index g l = AllHoldAt (g.E.LinearEngine.point l.engine) l.rows (take l.index-index l.indexes)
