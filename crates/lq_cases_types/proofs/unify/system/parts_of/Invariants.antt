use Rattle.std.proofs.Common.{◌<◌, All}
use Rattle.lq_cases_types.proofs.unify.system.parts_of.Given as goal

abbrev pub invariant-loop-word : goal.invariant-loop-word
invariant-loop-word l = All (λ p. p < l.count) l.parts.items
