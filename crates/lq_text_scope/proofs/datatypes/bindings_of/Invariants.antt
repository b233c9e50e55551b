use Rattle.std.proofs.Common.{◌≡◌, map, take}
use Rattle.lq_text_tree.specs.Items.{parameter_view}
use Rattle.lq_text_scope.specs.Views.{binding_view}
use Rattle.lq_text_scope.proofs.datatypes.bindings_of.Given as goal

abbrev pub invariant-loop-parameter : goal.invariant-loop-parameter
invariant-loop-parameter l = map binding_view l.bindings.items ≡ map parameter_view (take l.parameter-index l.parameters)
