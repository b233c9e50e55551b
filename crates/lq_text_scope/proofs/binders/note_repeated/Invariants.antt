use Rattle.std.proofs.Common.{◌≡◌, ◌++◌, map, take}
use Rattle.lq_text_scope.specs.Complaints.{least_with}
use Rattle.lq_text_scope.specs.Datatypes.{name_of}
use Rattle.lq_text_scope.specs.Patterns.{shown_names, repeated}
use Rattle.lq_text_scope.specs.Views.{binding_view, found_view}
use Rattle.lq_text_scope.proofs.binders.note_repeated.Given as goal

abbrev pub invariant-loop-binding : goal.invariant-loop-binding
invariant-loop-binding l =
    (l.known ≡ shown_names (map binding_view (take l.binding-index l.bindings)) ++ l.initial.known)
    × (found_view l.least.found ≡ least_with (found_view l.initial.least.found)
    (repeated (map name_of l.initial.known) (map binding_view (take l.binding-index l.bindings))))
