use Rattle.std.proofs.Common.{◌∙◌, map, sym, ap}
use Rattle.lq_meaning_normal_tree.specs.BlockView.{branch_view}
use Rattle.lq_refined_templates.specs.Points.Annotation.{type_of_form}
use Rattle.lq_text_tree.specs.Tree.{tree, match_on, use_of}
use Rattle.lq_text_tree.specs.TreeView.{cases_of}
use Rattle.lq_generate_reading.specs.Visibility.Notes.{annotation_view}
use Rattle.lq_generate_reading.proofs.ReadingLemmas.BlockForms.{match_type}
use Rattle.lq_generate_reading.proofs.reading.functions.+types.Goals as goal

pub type_of_operation-returns-in-Match-clause-is : goal.type_of_operation-returns-in-Match-clause-is
type_of_operation-returns-in-Match-clause-is t c =
    let n = annotation_view c.args.notes.now in
    let o = c.args.operation.now in
    let x = c.in-Match.field-1 in
    let e = tree c.in-Match.field-0 x.place (use_of x.binder.0) in
    c.type_of_match.ensures.is e
    ∙ (ap (λ l. type_of_form n o.id (match_on e (cases_of (map branch_view l)))) c.deref.ensures.value
    ∙ sym (match_type n o c.in-Match.field-0 x c.in-Match.branches c.in-Match.is))
