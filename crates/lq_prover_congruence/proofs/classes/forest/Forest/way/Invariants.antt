-- The way so far, and what is left of the climbs.
use Rattle.std.proofs.Common.{[], drop, length}
use Rattle.lq_prover_congruence.specs.Classes.Forest.{edges_of}
use Rattle.lq_prover_congruence.proofs.ClassesLemmas.Routes.{Climbing}
use Rattle.lq_prover_congruence.proofs.classes.forest.Forest.way.Given as goal

abbrev pub invariant-loop-hop : goal.invariant-loop-hop
invariant-loop-hop l = Climbing (edges_of l.self.toward.items) l.from l.to l.reasons.items (drop l.hop-index l.hop-items) l.down.items

abbrev pub invariant-loop-hop-2 : goal.invariant-loop-hop-2
invariant-loop-hop-2 l = Climbing (edges_of l.self.toward.items) l.from l.to l.reasons.items [] l.down.items

abbrev pub decreases-loop-hop-2 : goal.decreases-loop-hop-2
decreases-loop-hop-2 l = length l.down.items
