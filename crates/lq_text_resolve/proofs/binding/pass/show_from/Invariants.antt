use Rattle.std.proofs.Common.{◌≡◌, ◌+◌, map, drop}
use Rattle.lq_text_resolve.specs.Binding.Binding.{bound_from}
use Rattle.lq_text_resolve.specs.Binding.States.{binding_name}
use Rattle.lq_text_resolve.proofs.binding.pass.show_from.Given as goal

abbrev pub invariant-loop-at : goal.invariant-loop-at
invariant-loop-at l = bound_from (l.start + l.at) (map binding_name (drop l.at l.bindings)) l.variables ≡ bound_from l.start (map binding_name l.bindings) l.fn.variables
