use Rattle.std.proofs.Common.{arith}
use Rattle.lq_solve_facts.proofs.FactsLemmas.Below.{below_next}
use Rattle.lq_solve_facts.proofs.facts.clash.is_below.Goals as goal

pub loop-part-preserved : goal.loop-part-preserved
loop-part-preserved c = below_next c.args.room c.args.parts.now c.loop-part.part-index c.loop-part-test.true (omega arith) c.loop-part.invariant
