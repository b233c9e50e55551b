-- Each join leaves one label fewer that is its own.
use Rattle.lq_prover_congruence.specs.Classes.Moves.{Goes, IsWorking, roots}
use Rattle.lq_prover_congruence.proofs.classes.state.State.close.Given as goal

abbrev pub invariant-loop-left : goal.invariant-loop-left
invariant-loop-left l = record { goes : Goes l.initial.self l.self; working : IsWorking l.self l.queue.items 0 0 }

abbrev pub decreases-loop-left : goal.decreases-loop-left
decreases-loop-left l = roots 0 l.self.labels.items
