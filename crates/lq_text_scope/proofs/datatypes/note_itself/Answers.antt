use Rattle.std.proofs.Common.{sym, ap, ◌∙◌}
use Rattle.lq_text_scope.specs.Complaints.{least_with}
use Rattle.lq_text_scope.specs.Datatypes.{of_name}
use Rattle.lq_text_scope.specs.Spots.{frame_view, own_of}
use Rattle.lq_text_scope.specs.Views.{found_view}
use Rattle.lq_text_scope.proofs.TypeRows.{applied, types_count}
use Rattle.lq_text_scope.proofs.datatypes.note_itself.Goals as goal

pub returns-in-Apply : goal.returns-in-Apply
returns-in-Apply c =
    c.note_name.ensures
    ∙ ap (λ n. least_with (found_view c.args.least.now.found) (of_name (frame_view c.args.frame.now) c.args.wrongly c.in-Apply.place c.in-Apply.name.0 n)) (c.len.ensures ∙ types_count c.in-Apply.row)
    ∙ sym (ap (λ t. least_with (found_view c.args.least.now.found) (own_of (frame_view c.args.frame.now) c.args.wrongly t)) (applied c.args.written.now c.in-Apply.row c.in-Apply.name c.in-Apply.place c.in-Apply.is))
