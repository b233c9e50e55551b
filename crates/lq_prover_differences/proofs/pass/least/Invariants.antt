use Rattle.std.proofs.Common.{◌≡◌, ◌<◌, ◌≤◌, length, get_or, pos, ◌+ℤ◌, ◌≤ℤ◌, ◌<ℤ◌}
use Rattle.lq_prover_differences.specs.Passes.{vertex_at, order_at, values, nexts}
use Rattle.lq_prover_differences.proofs.Fallen.{NoneBelow}
use Rattle.lq_prover_differences.proofs.pass.least.Given as goal

abbrev pub invariant-loop-place : goal.invariant-loop-place
invariant-loop-place l = record {
  none : l.lowest ≤ℤ pos 0;
  below : NoneBelow l.fallen l.settled l.place (vertex_at l.vertices) (order_at l.order) l.lowest;
  some : l.lowest <ℤ pos 0 → (l.settled ≤ l.found) × (l.found < length l.fallen) × (order_at l.order (get_or l.fallen l.found 0) ≡ 0)
      × (l.lowest +ℤ values (vertex_at l.vertices) (get_or l.fallen l.found 0) ≡ nexts (vertex_at l.vertices) (get_or l.fallen l.found 0));
}
