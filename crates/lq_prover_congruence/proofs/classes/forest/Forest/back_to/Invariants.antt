-- What was written over is put back, the last first.
use Rattle.std.proofs.Common.{ℕ, length}
use Rattle.lq_prover_congruence.specs.Classes.Forest.{Follows, IsLog}
use Rattle.lq_prover_congruence.proofs.classes.forest.Forest.back_to.Given as goal

abbrev pub invariant-loop-last : goal.invariant-loop-last
invariant-loop-last l = record { past : Follows l.step l.initial.self l.self; log : (n : ℕ) × IsLog n (length l.self.toward.items) l.self.log.items }

abbrev pub decreases-loop-last : goal.decreases-loop-last
decreases-loop-last l = length l.self.log.items
