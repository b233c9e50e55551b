use Rattle.std.proofs.Common.{◌≡◌, length}
use Rattle.lq_types_rules.specs.Equations.Adding.{count_of}
use Rattle.lq_types_rules.proofs.EquationsLemmas.Opening.{IsOpened}
use Rattle.lq_types_rules.proofs.equations.system.System.fresh.Given as goal

abbrev pub invariant-loop : goal.invariant-loop
invariant-loop l = record {
  opened : IsOpened l.initial.self l.self (count_of l.initial.self) l.counter l.roots.items;
  count : length l.roots.items ≡ l.counter;
}
