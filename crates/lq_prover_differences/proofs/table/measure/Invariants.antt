use Rattle.std.proofs.Common.{ℕ, ◌<◌, ◌-ℤ◌, FitsSigned}
use Rattle.std.specs.Int.{w128}
use Rattle.lq_prover_differences.specs.Passes.{vertex_at, values}
use Rattle.lq_prover_differences.proofs.table.measure.Given as goal

abbrev pub invariant-loop-vertex : goal.invariant-loop-vertex
invariant-loop-vertex l = (v : ℕ) → v < l.vertex-index → FitsSigned w128 (values (vertex_at l.vertices) v -ℤ values (vertex_at l.vertices) 0)
