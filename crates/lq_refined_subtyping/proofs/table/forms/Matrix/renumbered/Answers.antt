use Rattle.std.proofs.Common.{◌++◌, ◌∷◌, [], map, ap, ◌∙◌}
use Rattle.std.proofs.lemmas.List.{map_push}
use Rattle.lq_refined_subtyping.specs.Table.Forms.{cell_view}
use Rattle.lq_refined_subtyping.proofs.TableLemmas.Numbers.{matrix-more}
use Rattle.lq_refined_subtyping.proofs.table.forms.Matrix.renumbered.Goals as goal

pub loop-cell-preserved : goal.loop-cell-preserved
loop-cell-preserved c =
    let before = c.loop-cell.items.items in
    matrix-more c.args.by c.deref-cell-items.result.now c.loop-cell.cell-index c.cell-item.result (map cell_view before) _
    c.loop-cell-test.true c.cell-item.is c.loop-cell.invariant
    (ap (map cell_view) c.in_ok-push.ensures.items ∙ map_push cell_view before c.in_ok-renumbered.field-0
    ∙ ap (λ x. map cell_view before ++ x ∷ []) c.in_ok-renumbered.ensures)
