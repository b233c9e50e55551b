use Rattle.std.proofs.Common.{◌≡◌, ◌+◌, ◌-◌, ◌^◌, map, min, take, ap, ◌∙◌, arith}
use Rattle.lq_refined_subtyping.specs.Table.Forms.{cell_view}
use Rattle.lq_refined_substitution.specs.Substitution.Views.{part_view, parts_view}
use Rattle.lq_refined_subtyping.specs.Split.Counting.{asked, cells_asked}
use Rattle.lq_refined_subtyping.proofs.SplitLemmas.Lengths.{cells_asked-more}
use Rattle.lq_refined_subtyping.proofs.split.counting.cells_asked.Goals as goal

pub loop-cell-preserved : goal.loop-cell-preserved
loop-cell-preserved c =
    let items = c.as_slice-cell-items.result.now in
    let i = c.loop-cell.cell-index in
    let n = cells_asked-more items i c.cell-item.result c.loop-cell-test.true c.cell-item.is in
    let a : c.asked.result ≡ asked (parts_view c.cell-item.result.parts) = c.asked.ensures ∙ ap (λ l. asked (map part_view l)) c.as_slice.ensures in
    let h : c.loop-cell.count ≡ min (cells_asked (map cell_view (take i items))) (2 ^ 64 - 1) = c.loop-cell.invariant in
    let whole : c.saturating_add-count.result ≡ min (cells_asked (map cell_view (take (i + 1) items))) (2 ^ 64 - 1) = omega arith in
    whole
