use Rattle.std.proofs.Common.{◌≡◌, ◌++◌, ◌+◌, take, length, vec_capacity}
use Rattle.lq_prover_differences.specs.Passes.{vertex_at}
use Rattle.lq_prover_differences.specs.Links.{kept}
use Rattle.lq_prover_differences.specs.Trail.{notes_of}
use Rattle.lq_prover_differences.proofs.trail.note_all.Given as goal

abbrev pub invariant-loop-place : goal.invariant-loop-place
invariant-loop-place l = record {
  noted : l.trail.items ≡ l.fn.trail.items ++ notes_of (kept (vertex_at l.vertices)) (take l.place-index l.places);
  count : length l.trail.items ≡ length l.fn.trail.items + l.place-index;
  capacity : vec_capacity l.trail ≡ vec_capacity l.fn.trail;
}
