use Rattle.std.proofs.Common.{◌≡◌}
use Rattle.lq_prover_case.specs.State.RowState.{terms_of}
use Rattle.lq_prover_proof_tree.specs.Trees.Met.{AllHold}
use Rattle.lq_logic_rows.specs.Row.{Valuation}
use Rattle.lq_logic_predicates.specs.NnfView.{nnf_view, nnfs_view}
use Rattle.lq_logic_predicates.specs.Points.{Point}
use Rattle.lq_logic_predicates.specs.RowMeaning.{MeetsAllRows}
use Rattle.lq_solve_facts.specs.Facts.Facts.{Grows, facts_of}
use Rattle.lq_solve_facts.proofs.FactsLemmas.Members.{row_of, size, size_each}
use Rattle.lq_solve_facts.proofs.facts.reads.+take.Given as goal

abbrev pub decreases-take : goal.decreases-take
decreases-take l = size (nnf_view l.reading.now)

abbrev pub decreases-take_all : goal.decreases-take_all
decreases-take_all l = size_each (nnfs_view l.readings.now)

abbrev pub invariant-take_all-loop-reading : goal.invariant-take_all-loop-reading
invariant-take_all-loop-reading l = record {
  held : (v : Valuation) (p : Point) → AllHold v p (facts_of l.fn.state) → MeetsAllRows v p (row_of l.reading-items) → AllHold v p (facts_of l.state);
  grows : Grows (facts_of l.fn.state) (facts_of l.state);
  limits : terms_of l.state.rows ≡ terms_of l.fn.state.rows;
}
