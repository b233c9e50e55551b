use Rattle.std.proofs.Common.{◌≡◌}
use Rattle.lq_prover_valid.specs.Standing.{IsStanding}
use Rattle.lq_cases_prover.proofs.prover.asking.assume_each.Given as goal

abbrev pub invariant-loop-before : goal.invariant-loop-before
invariant-loop-before l = record {
  standing : IsStanding l.standing;
  givens : l.standing.givens ≡ l.fn.standing.givens;
}
