-- What was joined is near: joined, or by the edge that is still to be given.
use Rattle.std.proofs.Common.{length}
use Rattle.lq_prover_congruence.specs.Classes.Forest.{edges_of}
use Rattle.lq_prover_congruence.proofs.ClassesLemmas.Heights.{height}
use Rattle.lq_prover_congruence.proofs.ClassesLemmas.Turning.{IsTurning}
use Rattle.lq_prover_congruence.proofs.classes.forest.Forest.turn.Given as goal

abbrev pub invariant-loop-was : goal.invariant-loop-was
invariant-loop-was l = IsTurning l.initial.self l.self l.step l.from l.to l.reason l.at l.edge

abbrev pub decreases-loop-was : goal.decreases-loop-was
decreases-loop-was l = height (length l.self.toward.items) (edges_of l.self.toward.items) l.at
