use mathlib.Core.Path.{fun_ext}
use Rattle.std.proofs.Common.{ℕ, List, map, ap, ◌∙◌}
use Rattle.lq_text_tree.specs.PredView.{pred_view}
use Rattle.lq_text_qualifiers.specs.Faults.Lookups.{Lookup, first_in, one}
use Rattle.lq_text_qualifiers.specs.Faults.Shapes.{Shape}
use Rattle.lq_text_qualifiers.specs.Sorting.Making.{Setting, asking, predicate_of, shape_called}
use Rattle.lq_text_qualifiers.specs.Sorting.Placeholders.{numbered, placeholders_in, shapes_of}
use Rattle.lq_text_qualifiers.specs.Sorting.Sorted.{Predicate, Qualifier, Variable, value}
use Rattle.lq_text_qualifiers.specs.Sorting.Views.{held, measured_view, predicate_view, seen, shape_view}
use Rattle.lq_text_qualifiers.proofs.sorting.qualifiers.qualifier_of.Goals as goal

pub returns : goal.returns
returns c =
    let known = seen measured_view c.args.measures.now in
    let q = c.args.qualifier.now in
    let t = pred_view q.predicate in
    let g = shape_called q.shape.0 in
    let around : Lookup Variable → Lookup ℕ → Setting = λ vs ps. record { variables = vs; placeholders = ps; measures = known } in
    let build : Shape → List Shape → Predicate → Qualifier = λ h hs p. record { name = q.name.0; place = q.place; shape = h; placeholders = hs; predicate = p } in
    let uses = c.in_ok-found.ensures.uses q.value.0 g in
    let shapes = c.in_ok-shapes.ensures.0 ∙ ap shapes_of uses in
    let numbers = fun_ext c.in_ok-shapes.ensures.1 ∙ ap (λ us. first_in (numbered 0 us)) uses in
    let predicate =
    c.in_ok-predicate_of.ensures ∙ ap (λ vs. predicate_of (around vs (held c.in_ok-shapes.numbers)) t) c.in_ok-value_of.ensures
    ∙ ap (λ ps. predicate_of (around (one q.value.0 value) ps) t) numbers
    in
    let hs = map shape_view c.in_ok-shapes.shapes.items in
    let p = predicate_view c.in_ok-predicate_of.field-0 in
    let us = placeholders_in (asking c.args.names.now known q.value.0 g) t in
    ap (λ h. build h hs p) c.called.ensures ∙ ap (λ ss. build g ss p) shapes ∙ ap (λ r. build g (shapes_of us) r) predicate
