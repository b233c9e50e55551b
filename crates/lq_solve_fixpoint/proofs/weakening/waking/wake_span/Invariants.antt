-- The flows of the run so far wait.
use Rattle.lq_solve_fixpoint.specs.Weakening.Waking.{IsIn, Wakes}
use Rattle.lq_solve_fixpoint.proofs.weakening.waking.wake_span.Given as goal

abbrev pub invariant-loop-at : goal.invariant-loop-at
invariant-loop-at l = Wakes l.goals (IsIn l.fn.span.start l.at) l.initial.waiting.keys l.waiting.keys
