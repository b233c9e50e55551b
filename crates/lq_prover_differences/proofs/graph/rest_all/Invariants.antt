use Rattle.std.proofs.Common.{◌≡◌, ℕ, ◌<◌}
use Rattle.lq_prover_differences.specs.Passes.{vertex_at, order_at, values, nexts}
use Rattle.lq_prover_differences.specs.Links.{kept}
use Rattle.lq_prover_differences.proofs.graph.rest_all.Given as goal

abbrev pub invariant-loop-vertex : goal.invariant-loop-vertex
invariant-loop-vertex l = record {
  kept : (v : ℕ) → kept (vertex_at l.vertices) v ≡ kept (vertex_at l.fn.vertices) v;
  rested : (v : ℕ) → v < l.vertex-index → nexts (vertex_at l.vertices) v ≡ values (vertex_at l.vertices) v;
}

abbrev pub invariant-loop-number : goal.invariant-loop-number
invariant-loop-number l = (v : ℕ) → v < l.number-index → order_at l.order v ≡ 0
