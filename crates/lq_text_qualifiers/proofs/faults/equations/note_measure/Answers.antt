use Rattle.std.proofs.Common.{◌≡◌, ℕ, Option, map, length, ap, ◌∙◌}
use Rattle.std.proofs.lemmas.List.{length-map}
use Rattle.lq_text_tree.specs.MeasureTrees.{equation_view}
use Rattle.lq_text_qualifiers.specs.Faults.Complaints.{least_with}
use Rattle.lq_text_qualifiers.specs.Faults.Datatypes.{shape_in, shape_named, size}
use Rattle.lq_text_qualifiers.specs.Faults.Equations.{counted, of_datatype, of_definition, of_equations}
use Rattle.lq_text_qualifiers.specs.Faults.Lookups.{Lookup, no_names}
use Rattle.lq_text_qualifiers.specs.Faults.Shapes.{Shape}
use Rattle.lq_text_qualifiers.specs.Faults.Views.{asked_view, found_view, measured_view, seen}
use Rattle.lq_text_qualifiers.proofs.FaultsLemmas.Rows.{four_noted}
use Rattle.lq_text_qualifiers.proofs.faults.equations.note_measure.Goals as goal

pub returns : goal.returns
returns c = λ ds sizes constructors.
    let texts = c.args.known.now.names.now in
    let known = seen measured_view c.args.known.now.measures.now in
    let n = c.args.number in
    let m = c.args.measure.now in
    let wanted : c.get-wanted.result ≡ size ds m.datatype.0 = c.get-wanted.ensures ∙ ap (λ (f : Lookup ℕ). f m.datatype.0) sizes in
    let count : c.len.result ≡ length (map equation_view m.equations.items) =
    let ok = m.equations.ok in let is = c.len.ensures in let mapped = length-map m.equations.items equation_view in cc
    in
    let named : asked_view c.shape_named-shape.result ≡ shape_named ds m.datatype.0 = c.shape_named-shape.ensures ∙ ap (λ (f : Lookup ℕ). shape_in f m.datatype.0) sizes in
    four_noted (found_view c.args.least.now.found) _ _ _ _ (of_definition m.place m.name.0 n (known m.name.0)) (counted m.place (size ds m.datatype.0) (length (map equation_view m.equations.items)))
    (of_datatype m.datatype_place m.datatype.0 (shape_named ds m.datatype.0)) (of_equations texts ds known n m.datatype.0 no_names (map equation_view m.equations.items))
    c.note_definition.ensures
    (c.note_count.ensures ∙ ap (λ (o : Option ℕ). least_with (found_view c.note_definition.new.least.found) (counted m.place o c.len.result)) wanted
    ∙ ap (λ (k : ℕ). least_with (found_view c.note_definition.new.least.found) (counted m.place (size ds m.datatype.0) k)) count)
    (c.note_datatype.ensures ∙ ap (λ (o : Option Shape). least_with (found_view c.note_count.new.self.found) (of_datatype m.datatype_place m.datatype.0 o)) named)
    (c.in_ok-note_equations.ensures ds constructors
    ∙ ap (λ es. least_with (found_view c.note_datatype.new.least.found) (of_equations texts ds known n m.datatype.0 no_names (map equation_view es))) c.deref.ensures.value)
