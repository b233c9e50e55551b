use Rattle.lq_prover_simplex.specs.Bounds.{AreUncrossed}
use Rattle.lq_prover_simplex.proofs.limits.Limits.crossed.Given as goal

abbrev pub invariant-loop-variable : goal.invariant-loop-variable
invariant-loop-variable l = AreUncrossed l.self l.variable
