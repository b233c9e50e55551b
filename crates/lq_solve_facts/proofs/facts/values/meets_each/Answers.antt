use Rattle.std.proofs.Common.{arith, subst}
use Rattle.lq_prover_case.specs.State.RowState.{row_point}
use Rattle.lq_logic_predicates.specs.RowMeaning.{MeetsRows}
use Rattle.lq_solve_facts.proofs.FactsLemmas.Members.{each_met, item_here, met_next}
use Rattle.lq_solve_facts.specs.Facts.Read.{hypothesis_reading}
use Rattle.lq_solve_facts.proofs.facts.values.meets_each.Goals as goal

pub loop-reading-init : goal.loop-reading-init
loop-reading-init c = λ p h k x w e. absurd (omega (arith, w))

pub loop-reading-preserved : goal.loop-reading-preserved
loop-reading-preserved c = λ p h.
    let v = row_point c.args.state.now.rows in
    let items = c.args.readings.now in
    let i = c.loop-reading.reading-index in
    let r = c.reading-item.result in
    met_next v p i items (λ x. hypothesis_reading x.value) r (item_here items i r c.loop-reading-test.true c.reading-item.is)
    (subst (λ x. MeetsRows v p (hypothesis_reading x)) c.as_ref.ensures (c.is_known_met.ensures c.if-not-is_known_met.false p h)) (c.loop-reading.invariant p h)

pub returns : goal.returns
returns c = λ _ p h. each_met (row_point c.args.state.now.rows) p c.loop-reading.reading-index c.args.readings.now (λ x. hypothesis_reading x.value) c.loop-reading-test.false (c.loop-reading.invariant p h)
