use Rattle.std.proofs.Common.{◌≡◌, ◌+◌, map, take}
use Rattle.lq_types_rules.proofs.equations.template.raised.Given as goal

abbrev pub invariant-loop-number : goal.invariant-loop-number
invariant-loop-number l = l.all.items ≡ map (λ p. l.by + p) (take l.number-index l.numbers)
