use Rattle.std.proofs.Common.{pos, take}
use Rattle.lq_prover_simplex.specs.RowParts.{IsDivided}
use Rattle.lq_prover_simplex.proofs.reading.divided.Given as goal

abbrev pub invariant-loop-term : goal.invariant-loop-term
invariant-loop-term l = IsDivided (pos l.by) (take l.term-index l.parts) l.divided.items
