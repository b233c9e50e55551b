use Rattle.std.proofs.Common.{take}
use Rattle.lq_logic_rows.specs.Forms.{DividesAll}
use Rattle.lq_prover_simplex.specs.RowParts.{IsGreatest}
use Rattle.lq_prover_simplex.proofs.reading.divisor.Given as goal

abbrev pub invariant-loop-coefficient : goal.invariant-loop-coefficient
invariant-loop-coefficient l = record {
  divides : DividesAll l.shared (take l.coefficient-index l.parts);
  greatest : IsGreatest l.shared (take l.coefficient-index l.parts);
}
