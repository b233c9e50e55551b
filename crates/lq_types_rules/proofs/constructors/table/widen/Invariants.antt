use Rattle.std.proofs.Common.{◌≡◌, ℕ, None, length, slice_index_or}
use Rattle.lq_types_rules.proofs.constructors.table.widen.Given as goal

abbrev pub invariant-loop : goal.invariant-loop
invariant-loop l = record {
  long : length l.entries.items ≡ l.counter;
  same : (i : ℕ) → slice_index_or l.entries.items i None ≡ slice_index_or l.fn.entries.items i None;
}
