use Rattle.std.proofs.Common.{slice_index_or, subst}
use Rattle.std.proofs.lemmas.List.{get_or_read}
use Rattle.lq_refined_instances.specs.declared.unknowns.Unknowns.{Unknowns}
use Rattle.lq_text_qualifiers.specs.Sorting.Views.{qualifier_view}
use Rattle.lq_refined_copies.specs.Patterns.{IsInner}
use Rattle.lq_refined_copies.proofs.Counted.{each_push, longer_by}
use Rattle.lq_refined_copies.proofs.patterns.all_inner.Goals as goal

pub loop-index-preserved : goal.loop-index-preserved
loop-index-preserved c =
    let q = qualifier_view c.args.qualifier.now in
    let P = c.args.patterns.now in
    let old = c.loop-index.all.items in
    let new = c.push.new.self.items in
    let i = c.loop-index.index in
    let x = c.index-patterns-index.result in
    let r = c.in_ok-inner.inner in
    let h = c.loop-index.invariant in
    let pushed = c.in_ok-push.ensures.items in
    record {
      count = longer_by old new r i h.count pushed;
      each = λ k p d low. each_push (λ j w. IsInner q (slice_index_or P j p) w) d old new r i (λ j l. h.each j p d l) h.count
          (subst (λ (y : Unknowns). IsInner q y r) (get_or_read P i x c.loop-index-test.true c.index-patterns-index.is p) c.in_ok-inner.ensures) pushed k low;
    }
