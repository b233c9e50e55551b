use Rattle.std.proofs.Common.{◌≡◌, map, take}
use Rattle.lq_refined_types.specs.Renumbering.Renumbered.{matrix_renumbered}
use Rattle.lq_refined_subtyping.specs.Table.Forms.{cell_view}
use Rattle.lq_refined_subtyping.proofs.table.forms.Matrix.renumbered.Given as goal

abbrev pub invariant-loop-cell : goal.invariant-loop-cell
invariant-loop-cell l = map cell_view l.items.items ≡ matrix_renumbered l.by (map cell_view (take l.cell-index l.cell-items))
