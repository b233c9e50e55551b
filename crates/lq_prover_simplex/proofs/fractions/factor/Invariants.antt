use Rattle.std.proofs.Common.{◌≢◌, ℕ, ◌<◌}
use Rattle.lq_prover_simplex.specs.Lines.{variable_at}
use Rattle.lq_prover_simplex.proofs.fractions.factor.Given as goal

abbrev pub invariant-loop-entry : goal.invariant-loop-entry
invariant-loop-entry l = (j : ℕ) → j < l.entry-index → variable_at l.entries j ≢ l.variable
