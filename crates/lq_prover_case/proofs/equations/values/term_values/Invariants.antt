use Rattle.std.proofs.Common.{◌≡◌, ◌<◌, ℕ, length}
use Rattle.lq_prover_case.specs.State.RowState.{row_point}
use Rattle.lq_logic_rows.specs.Steps.{valuation_of}
use Rattle.lq_prover_case.proofs.equations.values.term_values.Given as goal

abbrev pub invariant-loop-term : goal.invariant-loop-term
invariant-loop-term l = record {
  count : length l.numbers.items ≡ l.term;
  each : (k : ℕ) → k < l.term → valuation_of l.numbers.items k ≡ row_point l.state.rows k;
}
