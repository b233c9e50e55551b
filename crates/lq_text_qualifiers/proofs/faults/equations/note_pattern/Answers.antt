use Rattle.std.proofs.Common.{◌++◌, map, sym, ap, ◌∙◌}
use Rattle.lq_base_names.specs.declared.name.Name.{Name}
use Rattle.lq_text_scope.specs.Patterns.{binders_in}
use Rattle.lq_text_scope.specs.Views.{binding_view}
use Rattle.lq_text_tree.specs.PatternView.{pat_form_view}
use Rattle.lq_text_qualifiers.specs.Faults.Complaints.{least_with}
use Rattle.lq_text_qualifiers.specs.Faults.Equations.{of_form, of_pattern, repeated}
use Rattle.lq_text_qualifiers.specs.Faults.Lookups.{no_names}
use Rattle.lq_text_qualifiers.specs.Faults.Views.{found_view, names_in}
use Rattle.lq_text_qualifiers.proofs.FaultsLemmas.Fields.{pattern_seen, seen_pattern}
use Rattle.lq_text_qualifiers.proofs.FaultsLemmas.Rows.{least_acts}
use Rattle.lq_text_qualifiers.proofs.faults.equations.note_pattern.Goals as goal

pub returns : goal.returns
returns c = λ ds is.
    let p = c.args.pattern.now in
    let best = found_view c.args.least.now.found in
    let d = c.args.wanted.0 in
    let before = names_in c.args.before.now in
    let own = of_form ds d before p.place (pat_form_view Name (λ n. n.0) p.node) in
    let bound =
    ap (map binding_view) c.deref.ensures.value ∙ c.in_ok-push_binders.ensures.bound ∙ ap (λ bs. map binding_view bs ++ binders_in (seen_pattern p)) c.new-bindings.ensures.items ∙ ap binders_in (pattern_seen p)
    in
    c.in_ok-note_repeated.ensures
    ∙ ap (λ b. least_with b (repeated no_names (map binding_view c.deref.result.now))) (c.note_form.ensures ds is)
    ∙ sym (least_acts best own (repeated no_names (map binding_view c.deref.result.now)))
    ∙ ap (λ ns. least_with best (own ++ repeated no_names ns)) bound
    ∙ sym (ap (λ q. least_with best (of_pattern ds d before q)) (pattern_seen p))
