use Rattle.std.proofs.Common.{◌≡◌, reverse}
use Rattle.lq_text_resolve.specs.Binding.Machine.{last_trees, values_below}
use Rattle.lq_text_resolve.specs.Binding.Views.{values_view, trees_in}
use Rattle.lq_text_resolve.proofs.binding.values.pop_parts.Given as goal

abbrev pub invariant-loop : goal.invariant-loop
invariant-loop l =
    (reverse (trees_in l.parts.items) ≡ last_trees l.place l.counter (values_view l.initial.values.items))
    × (values_view l.values.items ≡ values_below l.counter (values_view l.initial.values.items))
