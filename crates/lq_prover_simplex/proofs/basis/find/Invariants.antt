use Rattle.std.proofs.Common.{ℕ, ◌<◌, ◌≢◌}
use Rattle.lq_prover_simplex.specs.Systems.{form_at}
use Rattle.lq_prover_simplex.proofs.basis.find.Given as goal

abbrev pub invariant-loop-at : goal.invariant-loop-at
invariant-loop-at l = (k : ℕ) → k < l.at → form_at l.forms k ≢ l.parts
