use Rattle.lq_types_unify.specs.Solution.{AreNodes}
use Rattle.lq_cases_types.proofs.unify.system.equations_of.Given as goal

abbrev pub invariant-loop-word : goal.invariant-loop-word
invariant-loop-word l = AreNodes l.count l.equations.items
