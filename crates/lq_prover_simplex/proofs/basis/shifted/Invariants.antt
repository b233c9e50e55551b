use Rattle.std.proofs.Common.{◌≡◌, ℕ, ◌<◌, length}
use Rattle.lq_base_numbers.specs.Rationals.Rational.{◌+ℚ◌, ◌*ℚ◌}
use Rattle.lq_logic_rows.specs.Steps.{valuation_of}
use Rattle.lq_base_numbers.specs.Fractions.Value.{value_of}
use Rattle.lq_prover_simplex.specs.Lines.{factor_of}
use Rattle.lq_prover_simplex.specs.Systems.{line_at}
use Rattle.lq_prover_simplex.proofs.basis.shifted.Given as goal

abbrev pub invariant-loop-at : goal.invariant-loop-at
invariant-loop-at l = record {
  count : length l.shifted.items ≡ l.at;
  moved : (k : ℕ) → k < l.at → valuation_of l.shifted.items k ≡ valuation_of l.values k +ℚ factor_of (line_at l.lines k) l.variable *ℚ value_of l.by;
}
