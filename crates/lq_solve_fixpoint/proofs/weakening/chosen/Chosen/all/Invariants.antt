-- The rows so far.
use Rattle.std.proofs.Common.{take}
use Rattle.lq_solve_fixpoint.proofs.WeakeningLemmas.Rows.{AreFull}
use Rattle.lq_solve_fixpoint.proofs.weakening.chosen.Chosen.all.Given as goal

abbrev pub invariant-loop-count : goal.invariant-loop-count
invariant-loop-count l = AreFull (take l.count-index l.counts) l.rows.items
