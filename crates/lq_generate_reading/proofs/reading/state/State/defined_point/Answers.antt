use Rattle.std.proofs.Common.{[], subst}
use Rattle.lq_refined_templates.specs.Points.Point.{whole}
use Rattle.lq_refined_templates.specs.Points.Seen.{scope_at}
use Rattle.lq_generate_reading.specs.Visibility.Notes.{annotation_view}
use Rattle.lq_generate_reading.specs.Reading.State.{count_of, noted, seen_of, Reads}
use Rattle.lq_generate_reading.proofs.ReadingLemmas.ItemForms.{point_of_block, point_of_function}
use Rattle.lq_generate_reading.proofs.reading.state.State.defined_point.Goals as goal

pub returns-in-Fun : goal.returns-in-Fun
returns-in-Fun c =
    point_of_function c.args.notes.now c.args.self.now c.args.self.now c.in-Fun.point c.args.name.0 c.args.number c.args.block.now c.in-Fun.field-1
    c.in-Fun.field-2 c.in-Fun.is c.requires

pub returns-in_ok-point-in_default : goal.returns-in_ok-point-in_default
returns-in_ok-point-in_default c =
    let m = c.args.notes.now in
    let n = annotation_view m in
    let old = c.args.self.now in
    let new = c.template.new.self in
    let k = c.in_ok-point-in_default.point in
    point_of_block m old new k c.args.name.0 c.args.number c.args.block.now c.in_default.not-Fun
    (subst (λ a. Reads m old new k (noted (count_of old) (whole (scope_at n (seen_of old) c.args.number) [] a))) c.type_of_binder.ensures.is
    c.in_ok-point-in_default.ensures)
