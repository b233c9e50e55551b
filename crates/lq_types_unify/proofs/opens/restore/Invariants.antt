use Rattle.std.proofs.Common.{◌≡◌, ◌⊎◌, ℕ, ◌+◌, ◌<◌, ◌≤◌, length}
use Rattle.lq_types_unify.specs.Classes.{up}
use Rattle.lq_types_unify.proofs.opens.restore.Given as goal

abbrev pub invariant-loop-class : goal.invariant-loop-class
invariant-loop-class l = record {
  long : length l.copies ≡ length l.fn.copies;
  low : (r : ℕ) → r < length l.fn.copies → (up l.copies r < length l.fn.copies) ⊎ ((up l.copies r ≡ up l.fn.copies r) × (length l.fn.copies + l.class-index ≤ up l.fn.copies r));
}
