use Rattle.std.proofs.Common.{take}
use Rattle.lq_logic_rows.specs.Steps.{valuation_of}
use Rattle.lq_prover_simplex.specs.Bounds.{AllBlocked}
use Rattle.lq_prover_simplex.proofs.limits.Limits.entering.Given as goal

abbrev pub invariant-loop-at : goal.invariant-loop-at
invariant-loop-at l = AllBlocked l.self l.side (valuation_of l.values) (take l.at l.line)
