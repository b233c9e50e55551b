use Rattle.std.proofs.Common.{Some, ap, ◌∙◌}
use Rattle.lq_text_tree.specs.PredView.{pred_view}
use Rattle.lq_text_qualifiers.specs.Faults.Complaints.{least_with}
use Rattle.lq_text_qualifiers.specs.Faults.Predicates.{Setting, of_predicate}
use Rattle.lq_text_qualifiers.specs.Faults.Lookups.{Lookup}
use Rattle.lq_text_qualifiers.specs.Faults.Shapes.{Shape, int}
use Rattle.lq_text_qualifiers.specs.Faults.Views.{found_view, measured_view, seen}
use Rattle.lq_text_qualifiers.proofs.faults.equations.note_term.Goals as goal

pub returns : goal.returns
returns c = λ ds is.
    let around : Lookup Shape → Setting = λ vs. record { texts = c.args.known.now.names.now; variables = vs; measures = seen measured_view c.args.known.now.measures.now; own = Some c.args.number } in
    c.in_ok-note_predicate.ensures
    ∙ ap (λ (vs : Lookup Shape). least_with (found_view c.args.least.now.found) (of_predicate (around vs) (Some int) (pred_view c.args.equation.now.term))) (c.in_ok-variables_of.ensures ds is)
