use Rattle.std.proofs.Common.{sym, ap, ◌∙◌}
use Rattle.std.specs.Option.{option_map}
use Rattle.lq_base_names.specs.declared.name.Name.{Name}
use Rattle.lq_text_scope.specs.Patterns.{count_of}
use Rattle.lq_text_tree.specs.PatternView.{pats_view}
use Rattle.lq_text_qualifiers.specs.Faults.Complaints.{least_with}
use Rattle.lq_text_qualifiers.specs.Faults.Datatypes.{constructor}
use Rattle.lq_text_qualifiers.specs.Faults.Equations.{again, of_constructor, of_form}
use Rattle.lq_text_qualifiers.specs.Faults.Views.{found_view, made_view, names_in}
use Rattle.lq_text_qualifiers.proofs.FaultsLemmas.Fields.{built_seen, row_count}
use Rattle.lq_text_qualifiers.proofs.FaultsLemmas.Rows.{least_acts}
use Rattle.lq_text_qualifiers.proofs.faults.equations.note_form.Goals as goal

pub returns-in-Build : goal.returns-in-Build
returns-in-Build c = λ ds is.
    let d = c.args.wanted.0 in
    let p = c.args.pattern.now.place in
    let q = c.in-Build.place in
    let x = c.in-Build.name.0 in
    let best = found_view c.args.least.now.found in
    let before = names_in c.args.before.now in
    let count = count_of (pats_view Name (λ n. n.0) c.in-Build.row) in
    c.note_again.ensures
    ∙ ap (λ b. least_with b (again before q x))
    (c.note_constructor.ensures ∙ ap (λ n. least_with best (of_constructor d p q x n (option_map made_view c.get-known.result))) (c.len.ensures ∙ row_count c.in-Build.row)
    ∙ ap (λ o. least_with best (of_constructor d p q x count o)) (ap (option_map made_view) c.get-known.ensures ∙ ap (λ f. f x) is))
    ∙ sym (least_acts best (of_constructor d p q x count (constructor ds x)) (again before q x))
    ∙ ap (λ f. least_with best (of_form ds d before p f)) (sym (built_seen c.args.pattern.now.node c.in-Build.name q c.in-Build.row c.in-Build.is))
