use Rattle.std.proofs.Common.{◌≡◌, ℕ, ◌<◌, ◌⊎◌, get_or}
use Rattle.lq_prover_differences.specs.Passes.{vertex_at, values, nexts, touched, IsListed}
use Rattle.lq_prover_differences.specs.Links.{kept}
use Rattle.lq_prover_differences.proofs.pass.accept.Given as goal

abbrev pub invariant-loop-place : goal.invariant-loop-place
invariant-loop-place l = record {
  offers : (v : ℕ) → nexts (vertex_at l.vertices) v ≡ nexts (vertex_at l.fn.vertices) v;
  done : (i : ℕ) → i < l.place-index → values (vertex_at l.vertices) (get_or l.fallen i 0) ≡ nexts (vertex_at l.fn.vertices) (get_or l.fallen i 0);
  others : (v : ℕ) → IsListed l.fallen v ⊎ (vertex_at l.vertices v ≡ vertex_at l.fn.vertices v);
  last : (v : ℕ) → (kept (vertex_at l.vertices) v).last ≡ (kept (vertex_at l.fn.vertices) v).last;
  marks : (v : ℕ) → touched (vertex_at l.vertices) v ≡ touched (vertex_at l.fn.vertices) v;
}
