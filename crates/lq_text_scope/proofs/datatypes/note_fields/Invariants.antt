use Rattle.std.proofs.Common.{◌≡◌, false}
use Rattle.lq_text_tree.specs.TypeView.{types_view}
use Rattle.lq_text_scope.specs.Complaints.{least_with}
use Rattle.lq_text_scope.specs.Datatypes.{of_types}
use Rattle.lq_text_scope.specs.Spots.{frame_view, pending, of_spots, total}
use Rattle.lq_text_scope.specs.Views.{found_view}
use Rattle.lq_text_scope.proofs.datatypes.note_fields.Given as goal

abbrev pub invariant-loop-spot : goal.invariant-loop-spot
invariant-loop-spot l =
    least_with (found_view l.least.found) (of_spots (frame_view l.frame) (pending l.left.items))
    ≡ least_with (found_view l.fn.least.found) (of_types (frame_view l.frame) false (types_view l.fields))

abbrev pub decreases-loop-spot : goal.decreases-loop-spot
decreases-loop-spot l = total (pending l.left.items)
