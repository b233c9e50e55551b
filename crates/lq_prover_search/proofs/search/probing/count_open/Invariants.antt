use Rattle.lq_prover_search.specs.Search.Unmoved.{IsUnmoved}
use Rattle.lq_prover_search.proofs.search.probing.count_open.Given as goal

abbrev pub invariant-loop-member : goal.invariant-loop-member
invariant-loop-member l = IsUnmoved l.fn.state l.state
