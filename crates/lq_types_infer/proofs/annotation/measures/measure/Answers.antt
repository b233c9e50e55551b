use Rattle.std.specs.List.{list_any}
use Rattle.std.specs.Prelude.{◌||◌, min, slice_index_or}
use Rattle.std.proofs.Common.{◌≡◌, ◌<◌, suc, ◌-◌, ◌^◌, false, length, ap, subst, ◌∙◌, arith}
use Rattle.lq_types_table.specs.Nodes.{at}
use Rattle.lq_types_table.specs.Whole.{types_of}
use Rattle.lq_types_infer.specs.Annotation.Measuring.{total, is_variable}
use Rattle.lq_types_infer.proofs.AnnotationLemmas.Measuring.{sizes_next, opens_next, open_first, open_later}
use Rattle.lq_types_infer.proofs.annotation.measures.measure.Goals as goal
use Rattle.lq_types_infer.proofs.annotation.measures.measure.Goals.{then-is_variable, else-is_variable}

pub loop-row-preserved : goal.loop-row-preserved
loop-row-preserved c =
    let all = types_of c.args.table.now in
    let row = c.loop-row.row in
    let parts = c.parts-parts.result.now in
    let any_of = list_any (λ p. slice_index_or c.loop-row.open.items p false) parts in
    let low : row < length all = let a = c.loop-row-test.true in let b = c.len-row-end.ensures.count in omega arith in
    let size = subst (λ ns. c.size_over-size.result ≡ min (suc (total (λ p. slice_index_or ns p 0) parts))
    (2 ^ 64 - 1)) c.deref.ensures.value c.size_over-size.ensures in
    let over_it = c.parts-parts.ensures.over in
    let earlier = c.parts-parts.ensures.earlier in
    let same = c.is_variable.ensures all ∙ ap is_variable c.node.ensures.types in
    let open_ : c.if-is_variable.is_open ≡ (is_variable (at all row) || any_of) = elim c.if-is_variable.branch [
      | then-is_variable w ↦ open_first c.if-is_variable.is_open c.is_variable.result
          (is_variable (at all row)) any_of (w.is_open-is ∙ w.if-is_variable.true) w.if-is_variable.true same
      | else-is_variable w ↦
          open_later c.if-is_variable.is_open c.is_variable.result
          (is_variable (at all row)) any_of w.is_open_over-is_open.result w.is_open-is w.if-is_variable.false same
          (subst (λ bs. w.is_open_over-is_open.result ≡ list_any
          (λ p. slice_index_or bs p false) parts) w.deref-else-is_variable.ensures.value w.is_open_over-is_open.ensures)
    ] in
    record {
      sizes =
          c.in_ok-push.ensures.items
          ∙ sizes_next all row c.loop-row.sizes.items parts c.size_over-size.result low c.loop-row.invariant.sizes over_it earlier size;
      opens =
          c.in_ok-push-2.ensures.items
          ∙ opens_next all row c.loop-row.open.items parts c.if-is_variable.is_open low c.loop-row.invariant.opens over_it earlier open_;
    }
