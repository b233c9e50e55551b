use Rattle.std.proofs.Common.{◌+◌, drop, sym, ap, ◌∙◌}
use Rattle.lq_text_tree.specs.Qualifiers.{qualifier_view, qualifiers_view}
use Rattle.lq_text_qualifiers.specs.Faults.Complaints.{least_with}
use Rattle.lq_text_qualifiers.specs.Faults.Qualifiers.{of_all, of_qualifier}
use Rattle.lq_text_qualifiers.specs.Faults.Views.{found_view, measured_view, seen}
use Rattle.lq_text_qualifiers.proofs.FaultsLemmas.Rows.{drop_by, noted}
use Rattle.lq_text_qualifiers.proofs.faults.qualifiers.note_qualifiers.Goals as goal

pub loop-qualifier-preserved : goal.loop-qualifier-preserved
loop-qualifier-preserved c = λ ds sizes.
    let texts = c.args.known.now.names.now in
    let known = seen measured_view c.args.known.now.measures.now in
    let i = c.loop-qualifier.qualifier-index in
    let q = c.qualifier-item.result in
    let best = found_view c.loop-qualifier.least.found in
    let rest = qualifiers_view (drop (i + 1) c.args.qualifiers.now) in
    let here = drop_by c.args.qualifiers.now i q c.loop-qualifier-test.true c.qualifier-item.is in
    noted best (found_view c.note_qualifier.new.least.found) (of_qualifier texts ds known (qualifier_view q)) (of_all texts ds known rest) (c.in_ok-note_qualifier.ensures ds sizes)
    ∙ ap (λ l. least_with best (of_all texts ds known (qualifiers_view l))) (sym here)
    ∙ c.loop-qualifier.invariant ds sizes
