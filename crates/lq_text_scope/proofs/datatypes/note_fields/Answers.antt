use Rattle.std.proofs.Common.{◌++◌, sym, ap, ◌∙◌, false, arith}
use Rattle.lq_text_tree.specs.TypeView.{type_view, types_view}
use Rattle.lq_text_scope.specs.Complaints.{least_with}
use Rattle.lq_text_scope.specs.Spots.{frame_view, pending, spots_in, of_spots, total}
use Rattle.lq_text_scope.specs.Views.{found_view}
use Rattle.lq_text_scope.proofs.TypeRows.{fields_first, looked_at, fewer, pending_more}
use Rattle.lq_text_scope.proofs.datatypes.note_fields.Goals as goal

pub loop-spot-init : goal.loop-spot-init
loop-spot-init c =
    fields_first (frame_view c.args.frame.now) (found_view c.args.least.now.found) (types_view c.args.fields.now) _
    (c.in_ok-push_types.ensures ∙ ap (λ l. spots_in false (types_view c.args.fields.now) ++ pending l) c.new-left.ensures.items)

pub loop-spot-smaller : goal.loop-spot-smaller
loop-spot-smaller c =
    let less = fewer c.in-Some.spot.wrongly (type_view c.in-Some.spot.written.now) (pending c.pop.new.self.items) (pending c.push_parts.new.left.items) c.in_ok-push_parts.ensures in
    let before = ap pending c.in-Some.ensures.items ∙ pending_more c.pop.new.self.items c.in-Some.spot in
    let same = ap total before in
    omega (arith, less, same)

pub loop-spot-preserved : goal.loop-spot-preserved
loop-spot-preserved c =
    looked_at (frame_view c.args.frame.now) (found_view c.loop-spot.least.found) _ c.in-Some.spot.wrongly (type_view c.in-Some.spot.written.now) (pending c.pop.new.self.items) _
    c.note_itself.ensures c.in_ok-push_parts.ensures
    ∙ ap (λ l. least_with (found_view c.loop-spot.least.found) (of_spots (frame_view c.args.frame.now) l)) (sym (ap pending c.in-Some.ensures.items ∙ pending_more c.pop.new.self.items c.in-Some.spot))
    ∙ c.loop-spot.invariant
