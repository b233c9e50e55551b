use Rattle.std.proofs.Common.{◌≡◌, ◌++◌, map, take}
use Rattle.lq_text_scope.specs.Patterns.{shown_names}
use Rattle.lq_text_scope.specs.Views.{binding_view}
use Rattle.lq_text_scope.proofs.binders.show_all.Given as goal

abbrev pub invariant-loop-binding : goal.invariant-loop-binding
invariant-loop-binding l = l.known ≡ shown_names (map binding_view (take l.binding-index l.bindings)) ++ l.initial.known
