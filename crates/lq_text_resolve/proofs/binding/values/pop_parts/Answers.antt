use Rattle.std.proofs.Common.{reverse, ap, ◌∙◌}
use Rattle.lq_text_resolve.specs.Binding.Views.{values_view, trees_in}
use Rattle.lq_text_resolve.proofs.BindingLemmas.Stacks.{taken_more, left_below}
use Rattle.lq_text_resolve.proofs.binding.values.pop_parts.Goals as goal

pub loop-preserved : goal.loop-preserved
loop-preserved c =
    let before = values_view c.args.values.now.items in
    let now = values_view c.loop.values.items in (
      ap (λ es. reverse (trees_in es)) c.in_ok-push.ensures.items
          ∙ taken_more c.args.place c.loop.counter c.loop.parts.items c.pop_part.result before now c.loop.invariant.0 c.loop.invariant.1 c.pop_part.ensures.top,
      left_below c.loop.counter before now (values_view c.pop_part.new.values.items) c.loop.invariant.1 c.pop_part.ensures.below,
    )
