use Rattle.std.proofs.Common.{◌≡◌, ℕ, ◌<◌, true, false, slice_index_or}
use Rattle.lq_types_infer.proofs.inference.copies.mark.Given as goal

abbrev pub invariant-loop-class : goal.invariant-loop-class
invariant-loop-class l = record {
  all_ : (k : ℕ) → k < l.class-index → slice_index_or l.weak (slice_index_or l.classes k 0) false ≡ true;
  only : (v : ℕ) → slice_index_or l.weak v false ≡ true → (k : ℕ) × (k < l.class-index) × (slice_index_or l.classes k 0 ≡ v);
}
