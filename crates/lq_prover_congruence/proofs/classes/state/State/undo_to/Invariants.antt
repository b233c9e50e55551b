-- What is left of the entries past the length still leads here.
use Rattle.std.proofs.Common.{length}
use Rattle.lq_prover_congruence.specs.Classes.Moves.{IsInOrder}
use Rattle.lq_prover_congruence.proofs.ClassesLemmas.Following.{Left}
use Rattle.lq_prover_congruence.proofs.classes.state.State.undo_to.Given as goal

abbrev pub invariant-loop-self : goal.invariant-loop-self
invariant-loop-self l = record { order : IsInOrder l.self; left : Left l.initial.self l.self l.kept }

abbrev pub decreases-loop-self : goal.decreases-loop-self
decreases-loop-self l = length l.self.trail.items
