use Rattle.std.proofs.Common.{◌≡◌, ℕ, ◌+◌, ◌-◌, ◌*◌, ◌≤◌, ◌<◌, length, vec_capacity, get_or, []}
use Rattle.lq_prover_differences.specs.Passes.{vertex_at, order_at, AtRest}
use Rattle.lq_prover_differences.specs.Links.{kept}
use Rattle.lq_prover_differences.specs.Trail.{IsTrailed, IsReached}
use Rattle.lq_prover_differences.proofs.solve.solve.Given as goal

abbrev pub invariant-loop-k : goal.invariant-loop-k
invariant-loop-k l = record {
  within : l.k ≤ length l.arcs;
  beyond : l.from ≤ l.k;
  notable : length l.trail.items + (length l.arcs - l.k) * (vec_capacity l.fallen + 2) ≤ vec_capacity l.trail;
  capacity : vec_capacity l.fallen ≡ vec_capacity l.fn.fallen;
  trail_capacity : vec_capacity l.trail ≡ vec_capacity l.fn.trail;
  same : length l.links ≡ length l.arcs;
  reached : IsReached l.arcs l.links l.k (kept (vertex_at l.vertices));
  trailed : IsTrailed (length l.fn.vertices) l.fn.trail.items l.trail.items (kept (vertex_at l.fn.vertices)) (kept (vertex_at l.vertices));
  before : (j : ℕ) → j < l.from → get_or l.links j 0 ≡ get_or l.fn.links j 0;
  rest : (v : ℕ) → AtRest (vertex_at l.vertices) (order_at l.order) v;
  empty : l.fallen.items ≡ [];
}

abbrev pub decreases-loop-k : goal.decreases-loop-k
decreases-loop-k l = length l.arcs - l.k
