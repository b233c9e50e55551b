use Rattle.std.proofs.Common.{◌+◌, Some, map, drop, sym, ap, ◌∙◌}
use Rattle.lq_text_tree.specs.MeasureTrees.{equation_view}
use Rattle.lq_text_qualifiers.specs.Faults.Complaints.{least_with}
use Rattle.lq_text_qualifiers.specs.Faults.Equations.{behind, equation_setting, of_equations, of_pattern}
use Rattle.lq_text_qualifiers.specs.Faults.Lookups.{Names}
use Rattle.lq_text_qualifiers.specs.Faults.Predicates.{of_predicate}
use Rattle.lq_text_qualifiers.specs.Faults.Shapes.{int}
use Rattle.lq_text_qualifiers.specs.Faults.Views.{found_view, measured_view, names_in, seen}
use Rattle.lq_text_qualifiers.proofs.FaultsLemmas.Rows.{drop_by, two_noted}
use Rattle.lq_text_qualifiers.proofs.faults.equations.note_equations.Goals as goal

pub loop-equation-preserved : goal.loop-equation-preserved
loop-equation-preserved c = λ ds is.
    let texts = c.args.known.now.names.now in
    let known = seen measured_view c.args.known.now.measures.now in
    let n = c.args.number in
    let d = c.args.datatype.0 in
    let i = c.loop-equation.equation-index in
    let e = equation_view c.equation-item.result in
    let rest = map equation_view (drop (i + 1) c.args.equations.now) in
    let before = names_in c.loop-equation.before in
    let best = found_view c.loop-equation.least.found in
    let here = drop_by c.args.equations.now i c.equation-item.result c.loop-equation-test.true c.equation-item.is in
    ap (λ (b : Names). least_with (found_view c.note_term.new.least.found) (of_equations texts ds known n d b rest)) c.in_ok-add_constructor.ensures
    ∙ two_noted best _ _ (of_pattern ds d before e.pattern) (of_predicate (equation_setting texts ds known n e.pattern) (Some int) e.term) (of_equations texts ds known n d (behind before e.pattern) rest)
    (c.in_ok-note_pattern.ensures ds is) (c.in_ok-note_term.ensures ds is)
    ∙ ap (λ l. least_with best (of_equations texts ds known n d before (map equation_view l))) (sym here)
    ∙ c.loop-equation.invariant ds is
