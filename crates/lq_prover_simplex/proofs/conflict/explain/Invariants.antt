use Rattle.lq_prover_simplex.proofs.Explaining.{Explained}
use Rattle.lq_prover_simplex.specs.Conflicts.{IsKept}
use Rattle.lq_prover_simplex.proofs.conflict.explain.Given as goal

abbrev pub invariant-loop-at : goal.invariant-loop-at
invariant-loop-at l = (kept : IsKept l.rows l.limits l.broken l.line) → Explained l.rows l.limits l.broken l.line kept l.at l.found.items
