use Rattle.std.proofs.Common.{take}
use Rattle.lq_prover_simplex.specs.RowParts.{IsTurned}
use Rattle.lq_prover_simplex.proofs.reading.turn.Given as goal

abbrev pub invariant-loop-term : goal.invariant-loop-term
invariant-loop-term l = IsTurned l.turned (take l.term-index l.parts) l.signed.items
