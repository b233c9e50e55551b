use Rattle.std.proofs.Common.{take}
use Rattle.lq_prover_simplex.specs.Standing.{AllBare}
use Rattle.lq_prover_simplex.proofs.tableau.refuted.Given as goal

abbrev pub invariant-loop-standing : goal.invariant-loop-standing
invariant-loop-standing l = AllBare (take l.standing-index l.rows)
