use Rattle.std.proofs.Common.{◌-◌}
use Rattle.lq_types_infer.proofs.InferenceLemmas.Failing.{IsBetween}
use Rattle.lq_types_infer.proofs.inference.program.Program.first_failing.Given as goal

abbrev pub invariant-halves : goal.invariant-halves
invariant-halves l = IsBetween l.self l.low l.high

abbrev pub decreases-halves : goal.decreases-halves
decreases-halves l = l.high - l.low
