use Rattle.std.proofs.Common.{◌≡◌, ◌≤◌, length}
use Rattle.std.specs.List.{All}
use Rattle.lq_prover_differences.specs.Table.{table_rows}
use Rattle.lq_cases_engines.specs.Differences.Numbered.{IsKept, IsTaken}
use Rattle.lq_cases_engines.proofs.differences.sequence.sequence.Given as goal

abbrev pub invariant-loop : goal.invariant-loop
invariant-loop l = record {
  kept : IsKept l.table;
  count : length (table_rows l.table) ≡ length l.rows.items;
  room : length l.rows.items ≤ 40;
  taken : All IsTaken l.rows.items;
}
