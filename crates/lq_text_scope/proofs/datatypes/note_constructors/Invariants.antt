use Rattle.std.proofs.Common.{◌≡◌, map, drop}
use Rattle.lq_text_tree.specs.Items.{constructor_view}
use Rattle.lq_text_scope.specs.Complaints.{least_with}
use Rattle.lq_text_scope.specs.Datatypes.{of_constructors, with_constructors}
use Rattle.lq_text_scope.specs.Spots.{frame_view}
use Rattle.lq_text_scope.specs.Views.{found_view}
use Rattle.lq_text_scope.proofs.datatypes.note_constructors.Given as goal

abbrev pub invariant-loop-constructor : goal.invariant-loop-constructor
invariant-loop-constructor l =
    (with_constructors l.known (map constructor_view (drop l.constructor-index l.constructors)) ≡ with_constructors l.fn.known (map constructor_view l.constructors))
    × (least_with (found_view l.least.found) (of_constructors (frame_view l.frame) l.known (map constructor_view (drop l.constructor-index l.constructors)))
    ≡ least_with (found_view l.fn.least.found) (of_constructors (frame_view l.frame) l.fn.known (map constructor_view l.constructors)))
