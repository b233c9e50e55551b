use Rattle.std.proofs.Common.{◌∙◌, arith}
use Rattle.lq_refined_instances.specs.Views.{scopes_view}
use Rattle.lq_text_qualifiers.specs.Sorting.Views.{shape_view}
use Rattle.lq_refined_copies.proofs.Counted.{all_counts}
use Rattle.lq_refined_copies.proofs.columns.symbol_counts.Goals as goal

pub returns : goal.returns
returns c =
    let all = scopes_view c.args.table.now in
    let h = c.loop-at.invariant in
    let e = c.len-at-end.ensures in
    let l = c.loop-at-test.false in
    let m = c.loop-at.auto.at-end in
    all_counts (shape_view c.args.shape) all c.loop-at.counts.items h.counts (h.count ∙ omega (arith, e, l, m))
