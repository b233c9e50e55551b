use Rattle.std.proofs.Common.{◌≡◌, ◌-◌, ◌^◌, map, min, take}
use Rattle.lq_refined_subtyping.specs.Table.Forms.{cell_view}
use Rattle.lq_refined_subtyping.specs.Split.Counting.{cells_asked}
use Rattle.lq_refined_subtyping.proofs.split.counting.cells_asked.Given as goal

abbrev pub invariant-loop-cell : goal.invariant-loop-cell
invariant-loop-cell l = l.count ≡ min (cells_asked (map cell_view (take l.cell-index l.cell-items))) (2 ^ 64 - 1)
