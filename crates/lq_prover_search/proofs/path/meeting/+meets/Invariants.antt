use Rattle.std.proofs.Common.{ℕ, ◌<◌, get_or, map}
use Rattle.lq_prover_case.specs.State.RowState.{row_point}
use Rattle.lq_logic_predicates.specs.NnfView.{nnf_view, nnfs_view}
use Rattle.lq_logic_predicates.specs.Points.{Point}
use Rattle.lq_logic_predicates.specs.RowMeaning.{MeetsRows}
use Rattle.lq_logic_predicates.specs.TermView.{sum_of}
use Rattle.lq_logic_predicates.specs.declared.nnf.Nnf.{Nnf}
use Rattle.lq_prover_search.specs.Path.Meeting.{IsAt, IsPastIn}
use Rattle.lq_prover_search.proofs.PathLemmas.Readings.{size, size_each}
use Rattle.lq_prover_search.proofs.path.meeting.+meets.Given as goal

abbrev pub decreases-meets : goal.decreases-meets
decreases-meets l = size (nnf_view l.reading.now)

abbrev pub decreases-meets_all : goal.decreases-meets_all
decreases-meets_all l = size_each (nnfs_view l.all.now)

abbrev pub decreases-meets_any : goal.decreases-meets_any
decreases-meets_any l = size_each (nnfs_view l.any.now)

abbrev pub invariant-meets_all-loop-reading : goal.invariant-meets_all-loop-reading
invariant-meets_all-loop-reading l =
    (p : Point) → IsAt (map sum_of l.objects.keys) l.state p → (k : ℕ) → k < l.reading-index → (d : Nnf) → MeetsRows (row_point l.state.rows) p (nnf_view (get_or l.reading-items k d))

abbrev pub invariant-meets_any-loop-reading : goal.invariant-meets_any-loop-reading
invariant-meets_any-loop-reading l =
    (p : Point) → IsAt (map sum_of l.objects.keys) l.state p → (k : ℕ) → k < l.reading-index → (d : Nnf) → MeetsRows (row_point l.state.rows) p (nnf_view (get_or l.reading-items k d))
    → IsPastIn (row_point l.state.rows) (nnf_view (get_or l.reading-items k d))
