use Rattle.std.proofs.Common.{◌++◌, ◌∷◌, [], ap, ◌∙◌}
use Rattle.lq_refined_substitution.specs.Substitution.Views.{parts_view}
use Rattle.lq_refined_subtyping.proofs.TableLemmas.Numbers.{parts-more}
use Rattle.lq_refined_subtyping.proofs.table.renumbering.renumbered_parts.Goals as goal

pub loop-part-preserved : goal.loop-part-preserved
loop-part-preserved c =
    parts-more c.args.by c.as_slice-part-items.result.now c.loop-part.part-index c.part-item.result (parts_view c.loop-part.made) _
    c.loop-part-test.true c.part-item.is c.loop-part.invariant
    (c.in_ok-push.ensures.ok ∙ ap (λ p. parts_view c.loop-part.made ++ p ∷ []) c.in_ok-renumbered_part.ensures)
