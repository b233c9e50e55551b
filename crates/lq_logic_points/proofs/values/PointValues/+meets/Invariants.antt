use Rattle.std.proofs.Common.{ℕ, ◌<◌, get_or}
use Rattle.lq_logic_rows.specs.Steps.{valuation_of}
use Rattle.lq_logic_predicates.specs.NnfView.{nnf_view, nnfs_view}
use Rattle.lq_logic_predicates.specs.RowMeaning.{MeetsRows}
use Rattle.lq_logic_predicates.specs.declared.nnf.Nnf.{Nnf}
use Rattle.lq_logic_points.specs.Values.{numbers_of, point_of_values}
use Rattle.lq_logic_points.proofs.Size.{size, size_each}
use Rattle.lq_logic_points.proofs.values.PointValues.+meets.Given as goal

abbrev pub decreases-meets : goal.decreases-meets
decreases-meets l = size (nnf_view l.nnf.now)

abbrev pub decreases-meets_all : goal.decreases-meets_all
decreases-meets_all l = size_each (nnfs_view l.all.now)

abbrev pub decreases-meets_any : goal.decreases-meets_any
decreases-meets_any l = size_each (nnfs_view l.any.now)

abbrev pub invariant-meets_all-loop-nnf : goal.invariant-meets_all-loop-nnf
invariant-meets_all-loop-nnf l = (k : ℕ) → k < l.nnf-index → (d : Nnf) → MeetsRows (valuation_of (numbers_of l.self)) (point_of_values l.self) (nnf_view (get_or l.nnf-items k d))

abbrev pub invariant-meets_any-loop-nnf : goal.invariant-meets_any-loop-nnf
invariant-meets_any-loop-nnf l = (k : ℕ) → k < l.nnf-index → (d : Nnf) → MeetsRows (valuation_of (numbers_of l.self)) (point_of_values l.self) (nnf_view (get_or l.nnf-items k d)) → ⊥
