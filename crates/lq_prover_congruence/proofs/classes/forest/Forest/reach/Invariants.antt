-- Room for one term more.
use Rattle.std.proofs.Common.{◌-◌, suc, length}
use Rattle.lq_prover_congruence.specs.Classes.Forest.{Stays}
use Rattle.lq_prover_congruence.proofs.classes.forest.Forest.reach.Given as goal

abbrev pub invariant-loop-self : goal.invariant-loop-self
invariant-loop-self l = Stays l.initial.self l.self

abbrev pub decreases-loop-self : goal.decreases-loop-self
decreases-loop-self l = suc l.term - length l.self.toward.items
