use Rattle.std.proofs.Common.{◌≤◌}
use Rattle.lq_text_qualifiers.specs.declared.sorting.sorted.ScopedPred.{size-ScopedPred}
use Rattle.lq_text_qualifiers.proofs.sorting.sorted.ScopedPred.+drop.Given as goal

-- what is left is no deeper than what was handed in
abbrev pub invariant-loop-self : goal.invariant-loop-self
invariant-loop-self l = size-ScopedPred l.self ≤ size-ScopedPred l.initial.self
