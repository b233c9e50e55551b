use Rattle.std.proofs.Common.{◌≤◌}
use Rattle.lq_cases_engines.specs.Engines.Rows.{IsBelow}
use Rattle.lq_cases_engines.proofs.engines.rows.linear_row.Given as goal

abbrev pub invariant-loop-term : goal.invariant-loop-term
invariant-loop-term l = record {
  below : IsBelow l.next l.parts.items;
  within : l.next ≤ 64;
}
