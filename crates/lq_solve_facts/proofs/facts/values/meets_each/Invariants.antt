use Rattle.lq_prover_case.specs.State.RowState.{row_point}
use Rattle.lq_logic_predicates.specs.Points.{Point}
use Rattle.lq_solve_facts.specs.Facts.Read.{hypothesis_reading}
use Rattle.lq_solve_facts.specs.Facts.Values.{HasFlags}
use Rattle.lq_solve_facts.proofs.FactsLemmas.Members.{AreMetFirst}
use Rattle.lq_solve_facts.proofs.facts.values.meets_each.Given as goal

abbrev pub invariant-loop-reading : goal.invariant-loop-reading
invariant-loop-reading l = (p : Point) → HasFlags l.state p → AreMetFirst (row_point l.state.rows) p l.reading-index l.readings (λ r. hypothesis_reading r.value)
