use Rattle.std.proofs.Common.{List, [], map, ap, ◌∙◌, unwrap_or}
use Rattle.lq_text_walk.specs.Scoped.Views.{name_number}
use Rattle.lq_text_tree.specs.MeasureTrees.{equation_view}
use Rattle.lq_text_qualifiers.specs.Faults.Lookups.{first_in}
use Rattle.lq_text_qualifiers.specs.Sorting.Making.{filed, term_at}
use Rattle.lq_text_qualifiers.specs.Sorting.Sorted.{Measure, Term}
use Rattle.lq_text_qualifiers.specs.Sorting.Views.{measured_view, seen}
use Rattle.lq_text_qualifiers.proofs.sorting.measures.measure_of.Goals as goal

pub returns : goal.returns
returns c = λ ds is.
    let known = seen measured_view c.args.measures.now in
    let m = c.args.measure.now in
    let with_terms : List Term → Measure = λ ts. record { name = m.name.0; datatype = m.datatype.0; terms = ts } in
    let names = ap (map name_number) c.deref-2.ensures.value ∙ c.in_ok-constructors.ensures ∙ ap (λ f. unwrap_or (f m.datatype.0) []) is in
    let equations = c.in_ok-equations.ensures ∙ ap (λ es. first_in (filed (map equation_view es))) c.deref.ensures.value in
    ap with_terms
    (c.in_ok-terms_at.ensures ∙ ap (λ es. map (term_at known es) (map name_number c.deref-2.result.now)) equations
    ∙ ap (map (term_at known (first_in (filed (map equation_view m.equations.items))))) names)
