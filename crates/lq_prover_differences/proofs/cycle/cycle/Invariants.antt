use Rattle.std.proofs.Common.{◌≡◌, ℕ, ◌+◌, ◌<◌, length, vec_capacity, get_or, pos, false}
use Rattle.lq_prover_differences.specs.declared.arc.Arc.{Arc}
use Rattle.lq_prover_differences.specs.Passes.{vertex_at, order_at, IsStuck}
use Rattle.lq_prover_differences.proofs.Walking.{Walks}
use Rattle.lq_prover_differences.proofs.cycle.cycle.Given as goal

abbrev none : Arc
none = record { tag = 0; from = 0; to = 0; cost = pos 0; forward = false }

abbrev pub invariant-steps : goal.invariant-steps
invariant-steps l = record {
  walk : (top : ℕ) × (IsStuck l.arcs top l.closing (vertex_at l.vertices) (order_at l.order) × Walks l.arcs top (vertex_at l.vertices) (order_at l.order) l.found.items l.at);
  room : length l.found.items + order_at l.order (get_or l.arcs l.at none).from < vec_capacity l.found;
  capacity : vec_capacity l.found ≡ vec_capacity l.fn.found;
}

abbrev pub decreases-steps : goal.decreases-steps
decreases-steps l = order_at l.order (get_or l.arcs l.at none).from
