use Rattle.std.proofs.Common.{◌≡◌, ℕ, ◌<◌, ◌≤◌, true, false, length, slice_index_or}
use Rattle.lq_types_infer.proofs.inference.copies.unmark.Given as goal

abbrev pub invariant-loop-class : goal.invariant-loop-class
invariant-loop-class l = (v : ℕ) → slice_index_or l.weak v false ≡ true → (k : ℕ) × (l.class-index ≤ k) × (k < length l.classes) × (slice_index_or l.classes k 0 ≡ v)
