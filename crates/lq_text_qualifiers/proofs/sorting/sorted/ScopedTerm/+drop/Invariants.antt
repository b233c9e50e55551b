use Rattle.std.proofs.Common.{◌≤◌}
use Rattle.lq_text_qualifiers.specs.declared.sorting.sorted.ScopedTerm.{size-ScopedTerm}
use Rattle.lq_text_qualifiers.proofs.sorting.sorted.ScopedTerm.+drop.Given as goal

-- what is left is no deeper than what was handed in
abbrev pub invariant-loop-self : goal.invariant-loop-self
invariant-loop-self l = size-ScopedTerm l.self ≤ size-ScopedTerm l.initial.self
