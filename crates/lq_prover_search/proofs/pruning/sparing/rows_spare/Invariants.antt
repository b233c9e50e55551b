use Rattle.std.proofs.Common.{ℕ, ◌<◌, get_or}
use Rattle.lq_base_numbers.specs.declared.fractions.frac.Frac.{Frac}
use Rattle.lq_prover_search.specs.Pruning.Span.{IsOutside}
use Rattle.lq_prover_search.proofs.pruning.sparing.rows_spare.Given as goal

abbrev pub invariant-loop-multiplier : goal.invariant-loop-multiplier
invariant-loop-multiplier l = (k : ℕ) → k < l.multiplier-index → (d : ℕ × Frac) → IsOutside l.facts (get_or l.multiplier-items k d).0
