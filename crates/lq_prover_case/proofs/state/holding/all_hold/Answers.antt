use Rattle.std.proofs.Common.{rules}
use Rattle.lq_prover_case.proofs.StateLemmas.Kept.{hold_more}
use Rattle.lq_prover_case.proofs.state.holding.all_hold.Goals as goal

pub loop-index-preserved : goal.loop-index-preserved
loop-index-preserved g c =
    hold_more (g.E.LinearEngine.point c.args.engine.now) c.args.rows.now c.args.indexes.now c.loop-index.index-index 0 c.loop-index-test.true c.loop-index.invariant (c.holds_at.ensures (search rules))
