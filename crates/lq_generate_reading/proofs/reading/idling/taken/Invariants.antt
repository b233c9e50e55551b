use Rattle.std.proofs.Common.{◌≡◌, ◌≤◌, ◌++◌, length, reverse}
use Rattle.lq_generate_reading.proofs.reading.idling.taken.Given as goal

abbrev pub invariant-loop-point : goal.invariant-loop-point
invariant-loop-point l = record {
  whole : l.initial.points.items ≡ l.points.items ++ reverse l.rest.items;
  behind : l.mark ≤ length l.points.items;
}

abbrev pub decreases-loop-point : goal.decreases-loop-point
decreases-loop-point l = length l.points.items
