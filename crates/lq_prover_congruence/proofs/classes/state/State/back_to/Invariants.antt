-- As many steps stand as are asked for, or more.
use Rattle.std.proofs.Common.{length}
use Rattle.lq_prover_congruence.proofs.ClassesLemmas.Following.{IsGoingBack}
use Rattle.lq_prover_congruence.proofs.classes.state.State.back_to.Given as goal

abbrev pub invariant-loop-self : goal.invariant-loop-self
invariant-loop-self l = IsGoingBack l.initial.self l.self l.steps

abbrev pub decreases-loop-self : goal.decreases-loop-self
decreases-loop-self l = length l.self.trail.items
