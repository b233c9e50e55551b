use Rattle.std.proofs.Common.{reverse, ap, ◌∙◌}
use Rattle.lq_text_resolve.proofs.BindingLemmas.Stacks.{taken_start, left_rest}
use Rattle.lq_text_resolve.proofs.binding.values.pop_starts.Goals as goal

pub loop-preserved : goal.loop-preserved
loop-preserved c =
    let before = reverse c.args.starts.now.items in
    let now = reverse c.loop.starts.items in (
      ap reverse c.in_ok-push.ensures.items
          ∙ taken_start c.loop.counter c.loop.popped.items c.pop_start.result before now c.loop.invariant.0 c.loop.invariant.1 c.pop_start.ensures.top,
      left_rest c.loop.counter before now (reverse c.pop_start.new.starts.items) c.loop.invariant.1 c.pop_start.ensures.below,
    )
