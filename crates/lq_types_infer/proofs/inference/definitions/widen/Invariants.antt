use Rattle.std.proofs.Common.{◌≡◌, ℕ, None, length, slice_index_or}
use Rattle.lq_types_infer.proofs.inference.definitions.widen.Given as goal

abbrev pub invariant-loop : goal.invariant-loop
invariant-loop l = record {
  long : length l.table.items ≡ l.counter;
  same : (i : ℕ) → slice_index_or l.table.items i None ≡ slice_index_or l.fn.table.items i None;
}
