use Rattle.std.proofs.Common.{◌+◌, ◌-◌, length}
use Rattle.lq_base_numbers.specs.Fractions.Value.{value_of}
use Rattle.lq_prover_simplex.proofs.Numerators.{PartsMerged}
use Rattle.lq_prover_simplex.proofs.merge.merged.Given as goal

abbrev pub invariant-loop-i : goal.invariant-loop-i
invariant-loop-i l =
    PartsMerged l.first l.second l.left.denominator l.right.denominator l.left.positive l.left.small l.right.positive l.right.small (value_of l.times) l.scale l.i l.j l.parts.items

abbrev pub decreases-loop-i : goal.decreases-loop-i
decreases-loop-i l = (length l.first - l.i) + (length l.second - l.j)
