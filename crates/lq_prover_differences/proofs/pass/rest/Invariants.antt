use Rattle.std.proofs.Common.{◌≡◌, ℕ}
use Rattle.lq_prover_differences.specs.Passes.{vertex_at, order_at}
use Rattle.lq_prover_differences.specs.Links.{kept}
use Rattle.lq_prover_differences.proofs.Fallen.{RestsOrWaits}
use Rattle.lq_prover_differences.proofs.pass.rest.Given as goal

abbrev pub invariant-loop-place : goal.invariant-loop-place
invariant-loop-place l = record {
  kept : (v : ℕ) → kept (vertex_at l.vertices) v ≡ kept (vertex_at l.fn.vertices) v;
  rest : RestsOrWaits l.fallen (vertex_at l.vertices) (order_at l.order) l.place-index;
}
