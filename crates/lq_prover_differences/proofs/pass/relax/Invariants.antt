use Rattle.std.proofs.Common.{◌≡◌, ℕ, suc, ◌≤◌, ◌+◌, length, slice_get, IfSome, vec_capacity}
use Rattle.lq_prover_differences.specs.Passes.{vertex_at, order_at, AllBelow, HasFront, IsPass}
use Rattle.lq_prover_differences.specs.Links.{kept}
use Rattle.lq_prover_differences.specs.Room.{unfallen}
use Rattle.lq_prover_differences.proofs.pass.relax.Given as goal

abbrev pub invariant-loop-k : goal.invariant-loop-k
invariant-loop-k l = record {
  within : l.k ≤ length l.arcs;
  from : (j : ℕ) → l.k ≡ suc j → IfSome (slice_get l.arcs j) (λ a. a.from ≡ l.at);
  room : length l.fallen.items + unfallen l.vertices ≤ vec_capacity l.fallen;
  capacity : vec_capacity l.fallen ≡ vec_capacity l.fn.fallen;
  inside : AllBelow l.fallen.items (length l.vertices);
  front : (n : ℕ) → HasFront l.fn.fallen.items n (vertex_at l.fn.vertices) (order_at l.order) → HasFront l.fallen.items n (vertex_at l.vertices) (order_at l.order);
  kept : (v : ℕ) → kept (vertex_at l.vertices) v ≡ kept (vertex_at l.fn.vertices) v;
  passes : (gap count : ℕ) → IsPass l.arcs l.top gap (vertex_at l.fn.vertices) (order_at l.order) count l.at (length l.arcs)
      → IsPass l.arcs l.top gap (vertex_at l.vertices) (order_at l.order) count l.at l.k;
}

abbrev pub decreases-loop-k : goal.decreases-loop-k
decreases-loop-k l = l.k
