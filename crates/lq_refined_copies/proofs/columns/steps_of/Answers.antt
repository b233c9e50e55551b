use Rattle.std.proofs.Common.{ℕ, IfSome, None, Option}
use Rattle.lq_refined_instances.specs.Views.{scopes_view}
use Rattle.lq_refined_instances.specs.declared.scopes.Addition.{Addition}
use Rattle.lq_refined_copies.specs.Counting.{IsStep}
use Rattle.lq_refined_copies.proofs.Counted.{each_push, longer_by}
use Rattle.lq_refined_copies.proofs.columns.steps_of.Goals as goal

pub loop-at-preserved : goal.loop-at-preserved
loop-at-preserved c =
    let P : ℕ → Option Addition → Type 0 = λ i o. IfSome o (IsStep (scopes_view c.args.table.now) i) in
    let h = c.loop-at.invariant in
    record {
      count = longer_by c.loop-at.steps.items c.push.new.self.items c.in_ok-step.step c.loop-at.at h.count c.in_ok-push.ensures.items;
      steps = each_push P None c.loop-at.steps.items c.push.new.self.items c.in_ok-step.step c.loop-at.at h.steps h.count c.in_ok-step.ensures c.in_ok-push.ensures.items;
    }
