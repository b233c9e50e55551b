use Rattle.std.proofs.Common.{◌≡◌, map, take}
use Rattle.lq_refined_types.specs.Types.Operations.{cells_under}
use Rattle.lq_refined_subtyping.specs.Table.Forms.{cell_view, matrix_view}
use Rattle.lq_top_answers.specs.Assignment.Views.{assignment_view}
use Rattle.lq_top_answers.proofs.assignment.known.known_cells.Given as goal

abbrev pub invariant-loop-cell : goal.invariant-loop-cell
invariant-loop-cell l = matrix_view l.made ≡ cells_under (assignment_view l.assignment) (map cell_view (take l.cell-index l.cell-items))
