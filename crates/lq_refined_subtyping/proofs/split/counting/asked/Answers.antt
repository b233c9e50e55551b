use Rattle.std.proofs.Common.{arith}
use Rattle.lq_refined_subtyping.proofs.SplitLemmas.Lengths.{asked-more}
use Rattle.lq_refined_subtyping.proofs.split.counting.asked.Goals as goal

pub loop-part-preserved : goal.loop-part-preserved
loop-part-preserved c =
    let n = asked-more c.args.parts.now c.loop-part.part-index c.part-item.result c.loop-part-test.true c.part-item.is in
    record { few = omega arith; count = omega arith }
