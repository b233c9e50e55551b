use Rattle.std.proofs.Common.{ℕ, ◌-◌, ◌<◌, ◌≤◌, length, take}
use Rattle.lq_types_unify.specs.Nodes.{form_at}
use Rattle.lq_types_unify.specs.Solution.{HasSolution, HasNoSolution}
use Rattle.lq_types_unify.proofs.solving.first_failing.Given as goal

abbrev pub invariant-halves : goal.invariant-halves
invariant-halves l = record {
  order : l.low ≤ l.high;
  within : l.high ≤ length l.equations;
  fails : HasNoSolution (form_at l.arena) (take l.high l.equations);
  before : (j : ℕ) → j < l.low → HasSolution (form_at l.arena) (take j l.equations);
}

abbrev pub decreases-halves : goal.decreases-halves
decreases-halves l = l.high - l.low
