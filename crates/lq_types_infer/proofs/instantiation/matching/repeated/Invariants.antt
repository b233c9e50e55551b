use Rattle.std.proofs.Common.{◌≡◌, replicate}
use Rattle.lq_types_infer.proofs.instantiation.matching.repeated.Given as goal

abbrev pub invariant-loop : goal.invariant-loop
invariant-loop l = l.numbers.items ≡ replicate l.counter l.value
