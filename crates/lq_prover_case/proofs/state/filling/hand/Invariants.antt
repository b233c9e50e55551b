use Rattle.std.proofs.Common.{◌≡◌, ◌≢◌, ◌≤◌, Some, length, take}
use Rattle.lq_logic_rows.specs.Answers.{Stopped}
use Rattle.lq_prover_simplex.specs.Table.{table_last, table_limits, table_rows}
use Rattle.lq_prover_case.specs.State.Stored.{HandsMore, Stands, tagged_rows}
use Rattle.lq_prover_case.proofs.state.filling.hand.Given as goal

abbrev pub invariant-loop-at : goal.invariant-loop-at
invariant-loop-at l = record {
  within : l.at ≤ length l.rows;
  standing : table_rows l.tableau ≡ take l.at (tagged_rows l.rows);
  going : table_last l.tableau ≢ Stopped;
  limits : table_limits l.tableau ≡ table_limits l.fn.tableau;
  handed : HandsMore (Stands (tagged_rows l.rows)) (Some l.fn.tableau) (Some l.tableau);
}
