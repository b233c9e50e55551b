use Rattle.std.proofs.Common.{◌≡◌, take}
use Rattle.lq_types_rules.specs.Equations.Solutions.{each}
use Rattle.lq_types_rules.specs.Equations.Adding.{Adds, IsLonger}
use Rattle.lq_types_rules.proofs.equations.system.System.are_same.Given as goal

abbrev pub invariant-loop-at : goal.invariant-loop-at
invariant-loop-at l = record {
  longer : IsLonger l.initial.self l.self;
  adds : Adds l.initial.self l.self (λ t. each t (take l.at l.lefts) ≡ each t (take l.at l.rights));
}
