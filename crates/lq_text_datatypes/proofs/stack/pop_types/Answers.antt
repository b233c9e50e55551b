use Rattle.std.proofs.Common.{ap, ◌∙◌}
use Rattle.lq_text_datatypes.specs.Views.{stack_view}
use Rattle.lq_text_datatypes.proofs.Stacks.{taken_more, left_below}
use Rattle.lq_text_datatypes.proofs.stack.pop_types.Goals as goal

pub loop-preserved : goal.loop-preserved
loop-preserved c =
    let before = stack_view c.args.types.now.items in
    let now = stack_view c.loop.types.items in (
      ap stack_view c.in_ok-push.ensures.items
          ∙ taken_more c.loop.counter c.loop.popped.items c.pop_type.result before now c.loop.invariant.0 c.loop.invariant.1 c.pop_type.ensures.top,
      left_below c.loop.counter before now (stack_view c.pop_type.new.types.items) c.loop.invariant.1 c.pop_type.ensures.below,
    )
