use Rattle.std.proofs.Common.{ℕ, ◌<◌, get_or}
use Rattle.lq_logic_predicates.specs.NnfView.{nnf_view, nnfs_view}
use Rattle.lq_logic_predicates.specs.declared.nnf.Nnf.{Nnf}
use Rattle.lq_logic_points.specs.Evaluation.{CanEvaluate}
use Rattle.lq_logic_points.proofs.Size.{size, size_each}
use Rattle.lq_logic_points.proofs.evaluating.+evaluate_rows.Given as goal

abbrev pub decreases-evaluate_each_row : goal.decreases-evaluate_each_row
decreases-evaluate_each_row l = size_each (nnfs_view l.nnfs.now)

abbrev pub decreases-evaluate_rows : goal.decreases-evaluate_rows
decreases-evaluate_rows l = size (nnf_view l.nnf.now)

abbrev pub invariant-evaluate_each_row-loop-nnf : goal.invariant-evaluate_each_row-loop-nnf
invariant-evaluate_each_row-loop-nnf l = (k : ℕ) → k < l.nnf-index → (d : Nnf) → CanEvaluate l.numbers (nnf_view (get_or l.nnf-items k d))
