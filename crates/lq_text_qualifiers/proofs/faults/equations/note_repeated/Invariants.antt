use Rattle.std.proofs.Common.{◌≡◌, map, drop}
use Rattle.lq_text_scope.specs.Views.{binding_view}
use Rattle.lq_text_qualifiers.specs.Faults.Complaints.{least_with}
use Rattle.lq_text_qualifiers.specs.Faults.Equations.{repeated}
use Rattle.lq_text_qualifiers.specs.Faults.Lookups.{no_names}
use Rattle.lq_text_qualifiers.specs.Faults.Views.{found_view, names_in}
use Rattle.lq_text_qualifiers.proofs.faults.equations.note_repeated.Given as goal

abbrev pub invariant-loop-binding : goal.invariant-loop-binding
invariant-loop-binding l =
    least_with (found_view l.least.found) (repeated (names_in l.before) (map binding_view (drop l.binding-index l.bindings)))
    ≡ least_with (found_view l.fn.least.found) (repeated no_names (map binding_view l.bindings))
