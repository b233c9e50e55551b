use Rattle.std.proofs.Common.{arith}
use Rattle.lq_solve_fixpoint.proofs.WeakeningLemmas.Counting.{taken}
use Rattle.lq_solve_fixpoint.proofs.weakening.chosen.Chosen.remove.Goals as goal

pub returns-then-has-clause-total : goal.returns-then-has-clause-total
returns-then-has-clause-total c =
    let e = taken c.args.self.now.rows.items c.args.unknown c.args.instance c.index_mut.result.now c.if-has.ensures c.index_mut.ensures.value in
    omega (arith, e)

pub returns-then-has-clause-falls : goal.returns-then-has-clause-falls
returns-then-has-clause-falls c h =
    let e = taken c.args.self.now.rows.items c.args.unknown c.args.instance c.index_mut.result.now c.if-has.ensures c.index_mut.ensures.value in
    omega (arith, e)
