use Rattle.std.proofs.Common.{◌+◌, ◌-◌, length}
use Rattle.lq_base_numbers.specs.Fractions.Value.{value_of}
use Rattle.lq_prover_simplex.proofs.Merging.{Merged}
use Rattle.lq_prover_simplex.proofs.fractions.fraction_sum.Given as goal

abbrev pub invariant-loop-i : goal.invariant-loop-i
invariant-loop-i l = Merged l.left l.right (value_of l.times) l.i l.j l.entries.items

abbrev pub decreases-loop-i : goal.decreases-loop-i
decreases-loop-i l = (length l.left - l.i) + (length l.right - l.j)
