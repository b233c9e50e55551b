use Rattle.std.proofs.Common.{take, ◌<◌, ◌^◌}
use Rattle.lq_prover_simplex.specs.WholeLines.{AllDivide}
use Rattle.lq_prover_simplex.proofs.gather.common_denominator.Given as goal

abbrev pub invariant-loop-entry : goal.invariant-loop-entry
invariant-loop-entry l = record {
  some : 0 < l.common;
  small : l.common < 2 ^ 127;
  multiple : AllDivide (take l.entry-index l.entries) l.common;
}
