-- The climb so far.
use Rattle.std.proofs.Common.{length}
use Rattle.lq_prover_congruence.specs.Classes.Forest.{edges_of}
use Rattle.lq_prover_congruence.specs.Classes.Ways.{IsClimb}
use Rattle.lq_prover_congruence.proofs.ClassesLemmas.Heights.{height}
use Rattle.lq_prover_congruence.proofs.classes.forest.Forest.climb.Given as goal

abbrev pub invariant-loop-edge : goal.invariant-loop-edge
invariant-loop-edge l = IsClimb (edges_of l.self.toward.items) l.term l.hops.items l.at

abbrev pub decreases-loop-edge : goal.decreases-loop-edge
decreases-loop-edge l = height (length l.self.toward.items) (edges_of l.self.toward.items) l.at
