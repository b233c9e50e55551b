use Rattle.lq_prover_search.specs.Search.Splits.{IsOpen}
use Rattle.lq_prover_search.proofs.search.choosing.best_choice.Given as goal

abbrev pub invariant-loop-at : goal.invariant-loop-at
invariant-loop-at l = IsOpen l.choices l.best.at
