use Rattle.std.specs.Prelude.{IfSome}
use Rattle.lq_prover_search.specs.Search.Splits.{IsOpen}
use Rattle.lq_prover_search.specs.Search.Unmoved.{IsUnmoved}
use Rattle.lq_prover_search.proofs.search.probing.probe_pairs.Given as goal

abbrev pub invariant-loop-at : goal.invariant-loop-at
invariant-loop-at l = record {
  unmoved : IsUnmoved l.fn.state l.state;
  found : IfSome l.best (λ r. IsOpen l.pairs r.at);
}
