use Rattle.std.proofs.Common.{◌≡◌, ℕ, ◌≤◌, take, drop, length, vec_capacity}
use Rattle.lq_prover_differences.specs.Passes.{vertex_at, AtRest}
use Rattle.lq_prover_differences.specs.Links.{kept}
use Rattle.lq_prover_differences.specs.Trail.{first_of, NotesBelow}
use Rattle.lq_prover_differences.proofs.trail.undo.Given as goal

abbrev pub invariant-loop-trail : goal.invariant-loop-trail
invariant-loop-trail l = record {
  within : l.to ≤ length l.trail.items;
  capacity : vec_capacity l.trail ≡ vec_capacity l.fn.trail;
  front : take l.to l.trail.items ≡ take l.to l.fn.trail.items;
  below : NotesBelow l.trail.items (length l.fn.vertices);
  back : (v : ℕ) → first_of (drop l.to l.trail.items) v (kept (vertex_at l.vertices) v) ≡ first_of (drop l.to l.fn.trail.items) v (kept (vertex_at l.fn.vertices) v);
  rest : (order : ℕ → ℕ) → ((v : ℕ) → AtRest (vertex_at l.fn.vertices) order v) → (v : ℕ) → AtRest (vertex_at l.vertices) order v;
}

abbrev pub decreases-loop-trail : goal.decreases-loop-trail
decreases-loop-trail l = goal.left-loop-trail l
