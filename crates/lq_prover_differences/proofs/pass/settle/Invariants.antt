use Rattle.std.proofs.Common.{◌≡◌, ℕ, ◌+◌, ◌-◌, ◌≤◌, length, sum_by, vec_capacity}
use Rattle.lq_prover_differences.specs.Passes.{vertex_at, order_at, AllBelow, HasFront, IsPass}
use Rattle.lq_prover_differences.specs.Links.{kept}
use Rattle.lq_prover_differences.specs.Room.{unfallen}
use Rattle.lq_prover_differences.proofs.pass.settle.Given as goal

abbrev pub invariant-loop-place : goal.invariant-loop-place
invariant-loop-place l = record {
  places : length l.fallen.items + unfallen l.vertices ≤ vec_capacity l.fallen;
  capacity : vec_capacity l.fallen ≡ vec_capacity l.fn.fallen;
  counted : (v : ℕ) → order_at l.order v ≤ l.count;
  inside : AllBelow l.fallen.items (length l.vertices);
  front : HasFront l.fallen.items l.count (vertex_at l.vertices) (order_at l.order);
  kept : (v : ℕ) → kept (vertex_at l.vertices) v ≡ kept (vertex_at l.fn.vertices) v;
  room : l.count + sum_by (λ o. 1 - o) l.order ≤ length l.order;
  passes : (gap : ℕ) → IsPass l.arcs l.top gap (vertex_at l.fn.vertices) (order_at l.fn.order) 0 l.top 0 → IsPass l.arcs l.top gap (vertex_at l.vertices) (order_at l.order) l.count l.top 0;
}

abbrev pub decreases-loop-place : goal.decreases-loop-place
decreases-loop-place l = sum_by (λ o. 1 - o) l.order
