use Rattle.std.proofs.Common.{map, take}
use Rattle.lq_prover_decide.specs.Case.{fact_of}
use Rattle.lq_prover_decide.specs.Settled.{HasFlags}
use Rattle.lq_prover_decide.proofs.values.flag_values.Given as goal

abbrev pub invariant-loop-fact : goal.invariant-loop-fact
invariant-loop-fact l = HasFlags (map fact_of (take l.fact-index l.facts)) l.flags.entries
