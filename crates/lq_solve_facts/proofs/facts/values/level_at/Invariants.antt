use Rattle.std.proofs.Common.{◌≡◌, take}
use Rattle.lq_prover_case.specs.State.RowState.{row_point}
use Rattle.lq_logic_rows.specs.Row.{sum_at}
use Rattle.lq_base_numbers.specs.Fractions.Value.{value_of}
use Rattle.lq_solve_facts.proofs.facts.values.level_at.Given as goal

abbrev pub invariant-loop-term : goal.invariant-loop-term
invariant-loop-term l = value_of l.total ≡ sum_at (row_point l.state.rows) (take l.term-index l.term-items)
