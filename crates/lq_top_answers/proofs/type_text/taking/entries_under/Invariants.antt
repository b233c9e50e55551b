use Rattle.std.proofs.Common.{◌≡◌, map, take}
use Rattle.lq_refined_types.specs.Types.Operations.{cells_under}
use Rattle.lq_refined_subtyping.specs.Table.Forms.{cell_view}
use Rattle.lq_top_answers.specs.Assignment.Views.{assignment_view}
use Rattle.lq_top_answers.specs.TypeText.ShownView.{entries_view}
use Rattle.lq_top_answers.proofs.type_text.taking.entries_under.Given as goal

abbrev pub invariant-loop-cell : goal.invariant-loop-cell
invariant-loop-cell l = entries_view l.made.items ≡ cells_under (assignment_view l.assignment) (map cell_view (take l.cell-index l.cell-items))
