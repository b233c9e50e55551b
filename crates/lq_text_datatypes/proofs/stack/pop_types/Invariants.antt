use Rattle.std.proofs.Common.{◌≡◌}
use Rattle.lq_text_datatypes.specs.Tasks.{last_types, types_below}
use Rattle.lq_text_datatypes.specs.Views.{stack_view}
use Rattle.lq_text_datatypes.proofs.stack.pop_types.Given as goal

abbrev pub invariant-loop : goal.invariant-loop
invariant-loop l =
    (stack_view l.popped.items ≡ last_types l.counter (stack_view l.initial.types.items))
    × (stack_view l.types.items ≡ types_below l.counter (stack_view l.initial.types.items))
