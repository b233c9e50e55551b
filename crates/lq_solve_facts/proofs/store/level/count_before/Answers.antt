use Rattle.std.proofs.Common.{◌≡◌, ◌≤◌, None, Some, false, get_or, length, slice_get, arith}
use Rattle.lq_solve_facts.specs.declared.store.level.Level.{Level}
use Rattle.lq_solve_facts.proofs.StoreLemmas.Levels.{get_read, none_next}
use Rattle.lq_solve_facts.proofs.store.level.count_before.Goals as goal

pub loop-at-init : goal.loop-at-init
loop-at-init c = λ i l w. absurd (omega (arith, w))

pub loop-at-preserved : goal.loop-at-preserved
loop-at-preserved c =
    let levels = c.args.levels.now in
    let none : Level = record { env = 0; unknown = None; mark = 0; readings = 0 } in
    let here : Level = get_or levels c.loop-at.at none in
    let there : slice_get levels c.loop-at.at ≡ Some here = get_read levels c.loop-at.at none c.loop-at-test.true in
    none_next levels c.loop-at.at c.args.unknown here there (λ e. let t = c.ends_in.ensures e in let f : c.ends_in.result ≡ false = c.if-ends_in.false in absurd (cc)) c.loop-at.invariant

pub returns-clause-others : goal.returns-clause-others
returns-clause-others c = λ i l w. c.loop-at.invariant i l (let past : length c.args.levels.now ≤ c.loop-at.at = c.loop-at-test.false in omega (arith, w, past))
