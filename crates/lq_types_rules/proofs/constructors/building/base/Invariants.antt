use Rattle.lq_types_rules.proofs.ConstructorsLemmas.Placing.{AreAllOpen}
use Rattle.lq_types_rules.proofs.constructors.building.base.Given as goal

abbrev pub invariant-loop : goal.invariant-loop
invariant-loop l = AreAllOpen l.types l.counter
