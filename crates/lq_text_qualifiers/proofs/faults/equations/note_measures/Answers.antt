use Rattle.std.proofs.Common.{◌≡◌, ℕ, suc, ◌+◌, drop, sym, ap, ◌∙◌, arith}
use Rattle.lq_text_tree.specs.MeasureTrees.{definitions_view, measure_view}
use Rattle.lq_text_qualifiers.specs.Faults.Complaints.{least_with}
use Rattle.lq_text_qualifiers.specs.Faults.Equations.{of_measure, of_measures_from}
use Rattle.lq_text_qualifiers.specs.Faults.Views.{found_view, measured_view, seen}
use Rattle.lq_text_qualifiers.proofs.FaultsLemmas.Rows.{drop_by, noted}
use Rattle.lq_text_qualifiers.proofs.faults.equations.note_measures.Goals as goal

pub loop-number-preserved : goal.loop-number-preserved
loop-number-preserved c = λ ds sizes constructors.
    let texts = c.args.known.now.names.now in
    let known = seen measured_view c.args.known.now.measures.now in
    let n = c.loop-number.number in
    let m = c.index-measures-number.result in
    let best = found_view c.loop-number.least.found in
    let rest = definitions_view (drop (n + 1) c.args.measures.now) in
    let here = drop_by c.args.measures.now n m c.loop-number-test.true c.index-measures-number.is in
    let next : n + 1 ≡ suc n = omega arith in
    ap (λ (k : ℕ). least_with (found_view c.note_measure.new.least.found) (of_measures_from texts ds known k rest)) next
    ∙ noted best (found_view c.note_measure.new.least.found) (of_measure texts ds known n (measure_view m)) (of_measures_from texts ds known (suc n) rest) (c.in_ok-note_measure.ensures ds sizes constructors)
    ∙ ap (λ l. least_with best (of_measures_from texts ds known n (definitions_view l))) (sym here)
    ∙ c.loop-number.invariant ds sizes constructors
