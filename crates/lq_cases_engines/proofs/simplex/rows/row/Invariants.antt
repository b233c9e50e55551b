use Rattle.lq_cases_engines.specs.Simplex.Rows.{IsRowBelow}
use Rattle.lq_cases_engines.proofs.simplex.rows.row.Given as goal

abbrev pub invariant-loop-term : goal.invariant-loop-term
invariant-loop-term l = IsRowBelow l.term l.parts.items
