-- No level so far ends in the unknown.
use Rattle.lq_solve_facts.proofs.StoreLemmas.Levels.{NoneFirst}
use Rattle.lq_solve_facts.proofs.store.level.count_before.Given as goal

abbrev pub invariant-loop-at : goal.invariant-loop-at
invariant-loop-at l = NoneFirst l.levels l.at l.unknown
