use Rattle.std.proofs.Common.{◌∙◌, arith, refl}
use Rattle.lq_solve_facts.proofs.FactsLemmas.Holding.{keeps_self, keeps_then, read_kept}
use Rattle.lq_solve_facts.proofs.FactsLemmas.Members.{item_here}
use Rattle.lq_refined_types.specs.Parts.Substitution.{formula_by}
use Rattle.lq_solve_facts.proofs.StoreLemmas.Failing.{not_proved}
use Rattle.lq_solve_facts.proofs.StoreLemmas.Readings.{IsUnmet, OfNumber, item_next, no_chosen_against, of_number}
use Rattle.lq_solve_facts.proofs.store.aiming.stand_against_each.Goals as goal

pub loop-instance-init : goal.loop-instance-init
loop-instance-init c = record { kept = λ p h. h; keeps = keeps_self _; readings = refl; none = λ f σ qs a p h at r w. absurd (omega (arith, w)) }

pub loop-instance-preserved : goal.loop-instance-preserved
loop-instance-preserved c =
    let before = c.loop-instance.invariant in
    let reads = c.args.reads.now in
    let i = c.loop-instance.instance-index in
    let r = c.instance-item.result in
    let here = item_here reads i r c.loop-instance-test.true c.instance-item.is in
    let now = c.stand_against_read-stand.ensures in record {
      kept = λ p h. now.kept c.in-Proved.is p (before.kept p h);
      keeps = keeps_then _ _ _ before.keeps now.keeps;
      readings = now.readings ∙ before.readings;
      none = λ f σ qs a p h.
          let one = a.each i r here in
          item_next i reads (OfNumber qs (IsUnmet p σ)) r here
          (of_number qs (IsUnmet p σ) r one.instance one.here
          (now.proved c.in-Proved.is (formula_by σ one.instance) (read_kept c.args.known.now c.loop-instance.known r.read.value (formula_by σ one.instance) before.keeps one.read) p (before.kept p h)))
          (before.none f σ qs a p h);
    }

pub returns-clause-proved : goal.returns-clause-proved
returns-clause-proved c = λ _ f σ qs a p h. no_chosen_against c.args.known.now f σ qs c.args.reads.now c.loop-instance.instance-index p a c.loop-instance-test.false (c.loop-instance.invariant.none f σ qs a p h)

pub returns-in-Settled : goal.returns-in-Settled
returns-in-Settled c = record {
  proved = λ t. absurd (not_proved c.stand_against_read-stand.result c.in-Settled.is t);
  settled = c.stand_against_read-stand.ensures.settled;
  keeps = keeps_then _ _ _ c.loop-instance.invariant.keeps c.stand_against_read-stand.ensures.keeps;
  readings = c.stand_against_read-stand.ensures.readings ∙ c.loop-instance.invariant.readings;
}
