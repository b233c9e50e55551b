use Rattle.std.proofs.Common.{◌≡◌, drop, map}
use Rattle.lq_refined_types.specs.Types.Unfolding.{cell}
use Rattle.lq_refined_subtyping.specs.Table.Forms.{cell_view, matrix_view}
use Rattle.lq_refined_subtyping.proofs.table.forms.Matrix.cell.Given as goal

abbrev pub invariant-loop-cell : goal.invariant-loop-cell
invariant-loop-cell l =
    cell (map cell_view (drop l.cell-index l.cell-items)) l.place.constructor.0 l.place.field l.place.parameter
    ≡ cell (matrix_view l.self) l.place.constructor.0 l.place.field l.place.parameter
