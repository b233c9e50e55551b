use Rattle.std.proofs.Common.{◌≡◌, ℕ, ◌<◌, true, false, slice_index_or}
use Rattle.lq_types_infer.proofs.inference.copies.are_marked.Given as goal

abbrev pub invariant-loop-class : goal.invariant-loop-class
invariant-loop-class l = (k : ℕ) → k < l.class-index → slice_index_or l.weak (slice_index_or l.classes k 0) false ≡ true
