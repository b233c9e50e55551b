use Rattle.std.proofs.Common.{ℕ, ◌<◌, get_or}
use Rattle.lq_prover_search.specs.Pruning.Span.{IsOutside}
use Rattle.lq_prover_search.proofs.pruning.sparing.all_outside.Given as goal

abbrev pub invariant-loop-number : goal.invariant-loop-number
invariant-loop-number l = (k : ℕ) → k < l.number-index → (d : ℕ) → IsOutside l.span (get_or l.numbers k d)
