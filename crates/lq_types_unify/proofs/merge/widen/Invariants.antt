use Rattle.std.proofs.Common.{◌≡◌, ℕ, length}
use Rattle.lq_types_unify.specs.Classes.{up}
use Rattle.lq_types_unify.proofs.merge.widen.Given as goal

abbrev pub invariant-loop-node : goal.invariant-loop-node
invariant-loop-node l = record {
  long : length l.table.items ≡ l.node;
  same : (i : ℕ) → up l.table.items i ≡ up l.fn.table.items i;
}
