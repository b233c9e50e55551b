use Rattle.std.proofs.Common.{◌≡◌, ◌-◌, ◌<◌, ◌≤◌, Some, length, slice_get}
use Rattle.lq_refined_substitution.specs.declared.substitution.places.Copies.{Copies}
use Rattle.lq_refined_substitution.proofs.substitution.places.Places.last_copies.Given as goal

-- the copies before `low` begin at the unknown or before it, and those from `high` on behind it
abbrev pub invariant-loop-low : goal.invariant-loop-low
invariant-loop-low l = record {
  ordered : l.low ≤ l.high;
  within : l.high ≤ length l.copies;
  early : (c : Copies) → 0 < l.low → slice_get l.copies (l.low - 1) ≡ Some c → c.first ≤ l.unknown;
  late : (c : Copies) → slice_get l.copies l.high ≡ Some c → l.unknown < c.first;
}

abbrev pub decreases-loop-low : goal.decreases-loop-low
decreases-loop-low l = l.high - l.low
