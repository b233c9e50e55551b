use Rattle.std.proofs.Common.{take, ◌<◌}
use Rattle.std.specs.Int.{◌∣◌}
use Rattle.lq_prover_simplex.specs.WholeLines.{DividesParts}
use Rattle.lq_prover_simplex.proofs.merge.shared.Given as goal

abbrev pub invariant-loop-part : goal.invariant-loop-part
invariant-loop-part l = record {
  some : 0 < l.shared;
  parts : DividesParts l.shared (take l.part-index l.parts);
  denominator : l.shared ∣ l.denominator;
}
