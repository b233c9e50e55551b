use Rattle.std.proofs.Common.{[], map, subst}
use Rattle.lq_meaning_normal_tree.specs.BlockView.{branch_view}
use Rattle.lq_refined_templates.specs.Programs.PureView.{use_view}
use Rattle.lq_refined_templates.specs.Points.Annotation.{type_of_form}
use Rattle.lq_refined_templates.specs.Points.Point.{whole}
use Rattle.lq_refined_templates.specs.Points.Pure.{variable_of}
use Rattle.lq_refined_templates.specs.Points.Reading.{expecting}
use Rattle.lq_refined_templates.specs.Points.Seen.{scope_at}
use Rattle.lq_text_tree.specs.Tree as form
use Rattle.lq_text_tree.specs.TreeView.{cases_of}
use Rattle.lq_generate_reading.specs.Visibility.Notes.{annotation_view}
use Rattle.lq_generate_reading.specs.Reading.State.{count_of, noted, seen_of, Reads}
use Rattle.lq_generate_reading.proofs.ReadingLemmas.Composing.{pointed}
use Rattle.lq_generate_reading.proofs.reading.state.State.match_head.Goals as goal

pub returns : goal.returns
returns c =
    let m = c.args.notes.now in
    let n = annotation_view m in
    let old = c.args.self.now in
    let mid = c.template.new.self in
    let i = c.args.id in
    let x = c.args.local in
    let e = form.tree c.args.used x.place (form.use_of x.binder.0) in
    let t = type_of_form n i (form.match_on e (cases_of (map branch_view c.args.branches.now))) in
    let k = c.in_ok-point.point in
    pointed m old mid c.use_at.new.self k (expecting c.args.idle (whole (scope_at n (seen_of old) i) [] t))
    (use_view c.in_ok-used.used) (λ j Δ. variable_of n Δ j e) (λ j y. (j, y))
    (subst (λ a. Reads m old mid k (noted (count_of old) (expecting c.args.idle (whole (scope_at n (seen_of old) i) [] a)))) (c.type_of_match-number.ensures.is e)
    c.in_ok-point.ensures)
    c.in_ok-used.ensures
