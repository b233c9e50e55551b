use Rattle.std.proofs.Common.{◌≡◌}
use Rattle.lq_prover_valid.specs.Standing.{IsStanding}
use Rattle.lq_cases_prover.proofs.prover.asking.ask_each.Given as goal

abbrev pub invariant-loop-goal : goal.invariant-loop-goal
invariant-loop-goal l = record {
  standing : IsStanding l.standing;
  givens : l.standing.givens ≡ l.fn.standing.givens;
}
