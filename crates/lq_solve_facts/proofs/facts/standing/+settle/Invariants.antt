use Rattle.std.proofs.Common.{◌≡◌, ℕ, ◌<◌, get_or}
use Rattle.lq_prover_case.specs.State.RowState.{terms_of}
use Rattle.lq_prover_proof_tree.specs.Trees.Met.{AllHold}
use Rattle.lq_logic_rows.specs.Row.{Valuation}
use Rattle.lq_logic_predicates.specs.NnfView.{nnf_view, nnfs_view}
use Rattle.lq_logic_predicates.specs.Points.{Point}
use Rattle.lq_logic_predicates.specs.RowMeaning.{MeetsRows}
use Rattle.lq_logic_predicates.specs.declared.nnf.Nnf.{Nnf}
use Rattle.lq_solve_facts.specs.Facts.Facts.{facts_of}
use Rattle.lq_solve_facts.proofs.FactsLemmas.Members.{size, size_each}
use Rattle.lq_solve_facts.proofs.facts.standing.+settle.Given as goal

abbrev pub decreases-settle : goal.decreases-settle
decreases-settle l = size (nnf_view l.reading.now)

abbrev pub decreases-settle_each : goal.decreases-settle_each
decreases-settle_each l = size_each (nnfs_view l.readings.now)

abbrev pub invariant-settle_each-loop-reading : goal.invariant-settle_each-loop-reading
invariant-settle_each-loop-reading l = record {
  refuted : (v : Valuation) (p : Point) → AllHold v p (facts_of l.fn.state) → (k : ℕ) → k < l.reading-index → (d : Nnf) → MeetsRows v p (nnf_view (get_or l.reading-items k d)) → ⊥;
  same : facts_of l.state ≡ facts_of l.fn.state;
  limits : terms_of l.state.rows ≡ terms_of l.fn.state.rows;
}
