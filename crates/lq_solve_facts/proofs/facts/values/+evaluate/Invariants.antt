use Rattle.std.proofs.Common.{◌≡◌, ℕ, ◌<◌, get_or, true}
use Rattle.lq_prover_case.specs.State.RowState.{row_point}
use Rattle.lq_logic_predicates.specs.NnfView.{nnf_view, nnfs_view}
use Rattle.lq_logic_predicates.specs.Points.{Point}
use Rattle.lq_logic_predicates.specs.RowMeaning.{MeetsRows}
use Rattle.lq_logic_predicates.specs.declared.nnf.Nnf.{Nnf}
use Rattle.lq_solve_facts.specs.Facts.Values.{HasFlags}
use Rattle.lq_solve_facts.proofs.FactsLemmas.Members.{size, size_each}
use Rattle.lq_solve_facts.proofs.facts.values.+evaluate.Given as goal

abbrev pub decreases-evaluate : goal.decreases-evaluate
decreases-evaluate l = size (nnf_view l.reading.now)

abbrev pub decreases-evaluate_all : goal.decreases-evaluate_all
decreases-evaluate_all l = size_each (nnfs_view l.all.now)

abbrev pub decreases-evaluate_any : goal.decreases-evaluate_any
decreases-evaluate_any l = size_each (nnfs_view l.any.now)

abbrev pub invariant-evaluate_all-loop-reading : goal.invariant-evaluate_all-loop-reading
invariant-evaluate_all-loop-reading l =
    l.known ≡ true → (p : Point) → HasFlags l.state p → (k : ℕ) → k < l.reading-index → (d : Nnf) → MeetsRows (row_point l.state.rows) p (nnf_view (get_or l.reading-items k d))

abbrev pub invariant-evaluate_any-loop-reading : goal.invariant-evaluate_any-loop-reading
invariant-evaluate_any-loop-reading l =
    l.known ≡ true → (p : Point) → HasFlags l.state p → (k : ℕ) → k < l.reading-index → (d : Nnf) → MeetsRows (row_point l.state.rows) p (nnf_view (get_or l.reading-items k d)) → ⊥
