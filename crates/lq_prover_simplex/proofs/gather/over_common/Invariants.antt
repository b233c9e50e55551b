use Rattle.std.proofs.Common.{◌≡◌, ◌<◌, ◌^◌, take}
use Rattle.lq_prover_simplex.specs.WholeLines.{entries_of}
use Rattle.lq_prover_simplex.proofs.gather.over_common.Given as goal

abbrev pub invariant-loop-entry : goal.invariant-loop-entry
invariant-loop-entry l =
    (positive : 0 < l.denominator) (small : l.denominator < 2 ^ 127) → entries_of l.parts.items l.denominator positive small ≡ take l.entry-index l.entries
