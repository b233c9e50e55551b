use Rattle.lq_types_rules.proofs.EquationsLemmas.ArmGoals.{IsArmStep}
use Rattle.lq_types_rules.proofs.equations.system.System.add_match.Given as goal

abbrev pub invariant-loop-next : goal.invariant-loop-next
invariant-loop-next l = IsArmStep l.initial.self l.self l.constructors l.nodes l.arms l.matched l.at l.next
