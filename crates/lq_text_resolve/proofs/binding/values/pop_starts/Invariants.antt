use Rattle.std.proofs.Common.{◌≡◌, reverse}
use Rattle.lq_text_resolve.specs.Binding.Machine.{last_starts, starts_below}
use Rattle.lq_text_resolve.proofs.binding.values.pop_starts.Given as goal

abbrev pub invariant-loop : goal.invariant-loop
invariant-loop l =
    (reverse l.popped.items ≡ last_starts l.counter (reverse l.initial.starts.items))
    × (reverse l.starts.items ≡ starts_below l.counter (reverse l.initial.starts.items))
