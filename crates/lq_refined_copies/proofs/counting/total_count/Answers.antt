use Rattle.std.proofs.Common.{map, take, sym, ap, ◌∙◌}
use Rattle.lq_refined_instances.specs.Instances.{told, total_count}
use Rattle.lq_refined_instances.proofs.CountSteps.{total-step}
use Rattle.lq_refined_instances.proofs.Counts.{total_count-none}
use Rattle.lq_refined_instances.proofs.Taking.{seen-more}
use Rattle.lq_text_qualifiers.specs.Sorting.Views.{qualifier_view}
use Rattle.lq_refined_copies.specs.Views.{shared_view}
use Rattle.lq_refined_copies.proofs.counting.total_count.Goals as goal

pub loop-qualifier-init : goal.loop-qualifier-init
loop-qualifier-init c = sym (ap told (total_count-none (shared_view c.args.shared.now)))

pub loop-qualifier-preserved : goal.loop-qualifier-preserved
loop-qualifier-preserved c =
    total-step (map qualifier_view (take c.loop-qualifier.qualifier-index c.args.qualifiers.now)) (qualifier_view c.qualifier-item.result) (shared_view c.args.shared.now)
    c.loop-qualifier.total c.in_ok-count.count c.saturating_add-total.result c.loop-qualifier.invariant c.in_ok-count.ensures c.saturating_add-total.ensures
    ∙ ap (λ l. told (total_count l (shared_view c.args.shared.now)))
    (sym (seen-more qualifier_view c.args.qualifiers.now c.loop-qualifier.qualifier-index c.qualifier-item.result c.qualifier-item.result c.loop-qualifier-test.true c.qualifier-item.is))
