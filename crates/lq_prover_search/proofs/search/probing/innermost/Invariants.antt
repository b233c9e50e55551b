use Rattle.std.specs.Prelude.{IfSome}
use Rattle.lq_prover_search.specs.Search.Splits.{IsOpen}
use Rattle.lq_prover_search.specs.Search.Unmoved.{IsUnmoved}
use Rattle.lq_prover_search.proofs.search.probing.innermost.Given as goal

abbrev pub invariant-loop-k : goal.invariant-loop-k
invariant-loop-k l = record {
  unmoved : IsUnmoved l.fn.state l.state;
  found : IfSome l.last (λ r. IsOpen l.pairs r.at);
}
