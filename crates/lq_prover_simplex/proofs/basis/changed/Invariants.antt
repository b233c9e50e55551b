use Rattle.lq_prover_simplex.proofs.Systems.{AddedSoFar}
use Rattle.lq_prover_simplex.proofs.basis.changed.Given as goal

abbrev pub invariant-loop-line : goal.invariant-loop-line
invariant-loop-line l = AddedSoFar l.lines l.variable l.zero l.changed.items l.line-index
