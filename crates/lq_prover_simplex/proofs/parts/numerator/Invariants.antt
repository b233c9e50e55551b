use Rattle.std.proofs.Common.{◌≢◌, ℕ, ◌<◌}
use Rattle.lq_prover_simplex.specs.WholeLines.{part_variable}
use Rattle.lq_prover_simplex.proofs.parts.numerator.Given as goal

abbrev pub invariant-loop-part : goal.invariant-loop-part
invariant-loop-part l = (j : ℕ) → j < l.part-index → part_variable l.parts j ≢ l.variable
