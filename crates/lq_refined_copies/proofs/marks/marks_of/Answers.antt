use Rattle.std.proofs.Common.{◌≡◌, ◌∙◌, ℕ, arith, None, Option}
use Rattle.lq_refined_instances.specs.Scopes.{scope_in}
use Rattle.lq_refined_instances.specs.Views.{scopes_view}
use Rattle.lq_text_qualifiers.specs.Sorting.Views.{asked_view}
use Rattle.lq_text_qualifiers.specs.declared.sorting.shape.Shape.{Shape}
use Rattle.lq_refined_copies.specs.Counting.{mark_of}
use Rattle.lq_refined_copies.proofs.Counted.{all_marks, each_push, longer_by}
use Rattle.lq_refined_copies.proofs.marks.marks_of.Goals as goal

pub loop-at-preserved : goal.loop-at-preserved
loop-at-preserved c =
    let P : ℕ → Option Shape → Type 0 = λ i o. asked_view o ≡ mark_of (scope_in (scopes_view c.args.table.now) i) in
    let h = c.loop-at.invariant in
    record {
      count = longer_by c.loop-at.marks.items c.push.new.self.items c.in_ok-mark.mark c.loop-at.at h.count c.in_ok-push.ensures.items;
      marks = each_push P None c.loop-at.marks.items c.push.new.self.items c.in_ok-mark.mark c.loop-at.at h.marks h.count c.in_ok-mark.ensures c.in_ok-push.ensures.items;
    }

pub returns : goal.returns
returns c =
    let all = scopes_view c.args.table.now in
    let h = c.loop-at.invariant in
    let e = c.len-at-end.ensures in
    let l = c.loop-at-test.false in
    let m = c.loop-at.auto.at-end in
    all_marks all c.loop-at.marks.items h.marks (h.count ∙ omega (arith, e, l, m))
