use Rattle.std.proofs.Common.{◌≡◌, ℕ, Some, None, Option, ap, sym, ◌∙◌, unwrap_or}
use Rattle.lq_text_tree.specs.PredView.{pred_view}
use Rattle.lq_text_qualifiers.specs.Faults.Complaints.{least_with}
use Rattle.lq_text_qualifiers.specs.Faults.Datatypes.{shape_in, shape_named}
use Rattle.lq_text_qualifiers.specs.Faults.Lookups.{Lookup, one}
use Rattle.lq_text_qualifiers.specs.Faults.Predicates.{Setting, of_predicate}
use Rattle.lq_text_qualifiers.specs.Faults.Qualifiers.{of_shape, qualifier_setting}
use Rattle.lq_text_qualifiers.specs.Faults.Shapes.{Shape, bool, other}
use Rattle.lq_text_qualifiers.specs.Faults.Views.{asked_view, found_view, measured_view, seen}
use Rattle.lq_text_qualifiers.proofs.FaultsLemmas.Rows.{least_acts}
use Rattle.lq_text_qualifiers.proofs.faults.qualifiers.note_qualifier.Goals as goal

pub returns : goal.returns
returns c = λ ds is.
    let texts = c.args.known.now.names.now in
    let known = seen measured_view c.args.known.now.measures.now in
    let q = c.args.qualifier.now in
    let best = found_view c.args.least.now.found in
    let t = pred_view q.predicate in
    let around : Lookup Shape → Setting = λ vs. record { texts = texts; variables = vs; measures = known; own = None } in
    let named : asked_view c.shape_named-shape.result ≡ shape_named ds q.shape.0 = c.shape_named-shape.ensures ∙ ap (λ (f : Lookup ℕ). shape_in f q.shape.0) is in
    let noted = c.note_shape.ensures ∙ ap (λ (o : Option Shape). least_with best (of_shape q.shape_place q.shape.0 o)) named in
    let variables = c.in_ok-value_of.ensures ∙ ap (λ (o : Option Shape). one q.value.0 (unwrap_or o other)) named in
    c.in_ok-note_predicate.ensures
    ∙ ap (λ (vs : Lookup Shape). least_with (found_view c.note_shape.new.least.found) (of_predicate (around vs) (Some bool) t)) variables
    ∙ ap (λ b. least_with b (of_predicate (qualifier_setting texts ds known q.value.0 (shape_named ds q.shape.0)) (Some bool) t)) noted
    ∙ sym (least_acts best (of_shape q.shape_place q.shape.0 (shape_named ds q.shape.0)) (of_predicate (qualifier_setting texts ds known q.value.0 (shape_named ds q.shape.0)) (Some bool) t))
