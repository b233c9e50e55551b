-- The terms that wait are fewer, and the labels are the same.
use Rattle.std.proofs.Common.{◌≡◌, vec_len}
use Rattle.lq_prover_congruence.specs.Classes.Moves.{Goes, IsWorking}
use Rattle.lq_prover_congruence.proofs.classes.state.State.next_clash.Given as goal

abbrev pub invariant-loop-term : goal.invariant-loop-term
invariant-loop-term l = record { goes : Goes l.initial.self l.self; labels : l.self.labels.items ≡ l.initial.self.labels.items; working : IsWorking l.self l.queue.items 0 0 }

abbrev pub decreases-loop-term : goal.decreases-loop-term
decreases-loop-term l = vec_len l.queue
