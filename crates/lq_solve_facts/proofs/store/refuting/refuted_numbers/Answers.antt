use Rattle.std.proofs.Common.{◌↔◌, IsTrue, false, arith}
use Rattle.lq_solve_facts.proofs.FactsLemmas.Members.{item_here}
use Rattle.lq_solve_facts.specs.Facts.Known.{IsAt, IsReadOf}
use Rattle.lq_solve_facts.specs.Facts.Plain.{IsPlain}
use Rattle.lq_refined_types.specs.Parts.Substitution.{formula_by}
use Rattle.lq_logic_predicates.specs.Formula.{Formula}
use Rattle.lq_logic_predicates.specs.Points.{Meets, Point}
use Rattle.lq_logic_predicates.specs.Reading.{reading_of}
use Rattle.lq_solve_facts.proofs.StoreLemmas.Readings.{IsPlainBy, OfNumber, all_noted, chosen_plain, item_next, noted_next, noted_none, of_number}
use Rattle.lq_solve_facts.proofs.store.refuting.refuted_numbers.Goals as goal

pub loop-instance-init : goal.loop-instance-init
loop-instance-init c = record {
  refuted = λ f σ qs a p h. noted_none f p σ qs c.args.reads.now c.new-numbers.result.items c.new-numbers.ensures.items;
  plain = λ f σ qs a at r w e. absurd (omega (arith, w));
}

pub loop-instance-preserved : goal.loop-instance-preserved
loop-instance-preserved c =
    let before = c.loop-instance.invariant in
    let k = c.args.known.now in
    let reads = c.args.reads.now in
    let i = c.loop-instance.instance-index in
    let r = c.instance-item.result in
    let here = item_here reads i r c.loop-instance-test.true c.instance-item.is in
    let answer : (h : Formula) → IsReadOf k r.read.value h → IsPlain h × ((p : Point) → IsAt k p → IsTrue c.in-Some.refuted ↔ Meets p (reading_of false h)) = c.in-Some.ensures in record {
      refuted = λ f σ qs a p h.
          let one = a.each i r here in
          noted_next i f p σ qs reads c.loop-instance.numbers.items c.note.new.numbers.items r one.instance c.in-Some.refuted here one.here one.is_chosen ((answer (formula_by σ one.instance) one.read).1 p h)
          c.in_ok-note.ensures.noted c.in_ok-note.ensures.same (before.refuted f σ qs a p h);
      plain = λ f σ qs a.
          let one = a.each i r here in
          item_next i reads (OfNumber qs (IsPlainBy σ)) r here (of_number qs (IsPlainBy σ) r one.instance one.here (answer (formula_by σ one.instance) one.read).0) (before.plain f σ qs a);
    }

pub returns : goal.returns
returns c =
    let last = c.loop-instance.invariant in
    let k = c.args.known.now in
    let reads = c.args.reads.now in
    let i = c.loop-instance.instance-index in record {
      refuted = λ f σ qs a p h. all_noted k i f p σ qs reads c.loop-instance.numbers.items a c.loop-instance-test.false (last.refuted f σ qs a p h);
      plain = λ f σ qs a. chosen_plain k f σ qs reads i a c.loop-instance-test.false (last.plain f σ qs a);
    }
