use Rattle.std.proofs.Common.{◌≡◌, length}
use Rattle.std.specs.List.{All}
use Rattle.lq_prover_simplex.specs.Table.{table_rows}
use Rattle.lq_cases_engines.specs.Simplex.Numbered.{IsKept, IsTaken}
use Rattle.lq_cases_engines.proofs.simplex.sequence.sequence.Given as goal

abbrev pub invariant-loop : goal.invariant-loop
invariant-loop l = record {
  kept : IsKept l.tableau;
  count : length (table_rows l.tableau) ≡ length l.rows.items;
  taken : All IsTaken l.rows.items;
}
