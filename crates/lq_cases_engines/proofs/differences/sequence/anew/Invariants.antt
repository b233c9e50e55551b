use Rattle.std.proofs.Common.{◌≡◌, length}
use Rattle.lq_prover_differences.specs.Table.{table_rows}
use Rattle.lq_cases_engines.specs.Differences.Numbered.{IsKept}
use Rattle.lq_cases_engines.proofs.differences.sequence.anew.Given as goal

abbrev pub invariant-loop-row : goal.invariant-loop-row
invariant-loop-row l = record {
  kept : IsKept l.table;
  count : length (table_rows l.table) ≡ l.row-index;
}
