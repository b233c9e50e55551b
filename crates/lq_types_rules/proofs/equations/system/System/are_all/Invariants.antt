use Rattle.std.proofs.Common.{take, get_or}
use Rattle.lq_text_tree.specs.Types.{AreAll}
use Rattle.lq_types_rules.specs.Equations.Solutions.{each}
use Rattle.lq_types_rules.specs.Equations.Adding.{Adds, IsLonger}
use Rattle.lq_types_rules.proofs.equations.system.System.are_all.Given as goal

abbrev pub invariant-loop-at : goal.invariant-loop-at
invariant-loop-at l = record {
  longer : IsLonger l.initial.self l.self;
  adds : Adds l.initial.self l.self (λ t. AreAll (t (get_or l.one 0 0)) (each t (take l.at l.parts)));
}
