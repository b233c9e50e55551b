use Rattle.std.proofs.Common.{◌≡◌, take}
use Rattle.lq_prover_simplex.specs.WholeLines.{entries_of}
use Rattle.lq_prover_simplex.proofs.parts.entries.Given as goal

abbrev pub invariant-loop-part : goal.invariant-loop-part
invariant-loop-part l = l.entries.items ≡ entries_of (take l.part-index l.part-items) l.line.denominator l.line.positive l.line.small
