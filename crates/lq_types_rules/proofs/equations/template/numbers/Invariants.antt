use Rattle.std.proofs.Common.{◌≡◌}
use Rattle.lq_types_rules.specs.Equations.Templates.{upto}
use Rattle.lq_types_rules.proofs.equations.template.numbers.Given as goal

abbrev pub invariant-loop-at : goal.invariant-loop-at
invariant-loop-at l = l.all.items ≡ upto l.first l.at
