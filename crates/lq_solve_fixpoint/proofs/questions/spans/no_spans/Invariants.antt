-- As many as were added.
use Rattle.std.proofs.Common.{◌≡◌, length}
use Rattle.lq_solve_fixpoint.proofs.questions.spans.no_spans.Given as goal

abbrev pub invariant-loop : goal.invariant-loop
invariant-loop l = length l.spans.items ≡ l.counter
