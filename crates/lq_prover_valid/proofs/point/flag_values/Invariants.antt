use Rattle.std.proofs.Common.{take}
use Rattle.lq_prover_valid.specs.Values.{HasFlagsOf}
use Rattle.lq_prover_valid.proofs.point.flag_values.Given as goal

abbrev pub invariant-loop-at : goal.invariant-loop-at
invariant-loop-at l = HasFlagsOf (take l.at l.flags.keys) l.state l.values.entries
