use Rattle.std.specs.Prelude.{max, slice_index_or}
use Rattle.std.proofs.Common.{◌≡◌, ℕ, ◌<◌, length, ap, ap₂, subst, ◌∙◌, arith}
use Rattle.lq_types_table.specs.Whole.{types_of}
use Rattle.lq_types_infer.specs.Annotation.Bounds.{own_bound, largest}
use Rattle.lq_types_infer.proofs.AnnotationLemmas.Bounding.{bounds_next}
use Rattle.lq_types_infer.proofs.annotation.bounds.bounds_of.Goals as goal

pub loop-row-preserved : goal.loop-row-preserved
loop-row-preserved c =
    let all = types_of c.args.table.now in
    let row = c.loop-row.row in
    let parts = c.parts.result.now in
    let low : row < length all = let a = c.loop-row-test.true in let b = c.len-row-end.ensures.count in omega arith in
    let inner = subst (λ ns. c.bound_over-inner.result ≡ largest (λ p. slice_index_or ns p 0) parts) c.deref.ensures.value c.bound_over-inner.ensures in
    let own = c.in_ok-own.ensures all ∙ ap own_bound c.node.ensures.types in
    c.in_ok-push.ensures.items
    ∙ bounds_next all row c.loop-row.bounds.items parts c.max.result low c.loop-row.invariant c.parts.ensures.over c.parts.ensures.earlier
    (c.max.ensures ∙ ap₂ (λ (m : ℕ) (n : ℕ). max m n) own inner)
