use Rattle.std.proofs.Common.{◌≡◌, ℕ, length}
use Rattle.lq_generate_operations.specs.Basis.Basis.{items_at}
use Rattle.lq_generate_datatypes.proofs.building.widen.Given as goal

abbrev pub invariant-loop : goal.invariant-loop
invariant-loop g l = record {
  long : length l.rows.items ≡ l.counter;
  same : (i : ℕ) → items_at l.rows.items i ≡ items_at l.fn.rows.items i;
}
