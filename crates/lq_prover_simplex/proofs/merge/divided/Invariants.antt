use Rattle.std.proofs.Common.{take}
use Rattle.lq_prover_simplex.specs.WholeLines.{AreDivided}
use Rattle.lq_prover_simplex.proofs.merge.divided.Given as goal

abbrev pub invariant-loop-part : goal.invariant-loop-part
invariant-loop-part l = AreDivided l.by (take l.part-index l.parts) l.divided.items
