-- The flows of the runs so far wait.
use Rattle.std.proofs.Common.{take}
use Rattle.lq_solve_fixpoint.specs.Weakening.Index.{IsWithinOne}
use Rattle.lq_solve_fixpoint.specs.Weakening.Waking.{Wakes}
use Rattle.lq_solve_fixpoint.proofs.weakening.waking.wake_all.Given as goal

abbrev pub invariant-loop-span : goal.invariant-loop-span
invariant-loop-span l = Wakes l.goals (IsWithinOne (take l.span-index l.spans)) l.initial.waiting.keys l.waiting.keys
