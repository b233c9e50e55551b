use Rattle.std.specs.Option.{option_map}
use Rattle.std.proofs.Common.{◌+◌, sym, ap, ◌∙◌, arith}
use Rattle.lq_refined_instances.specs.Instances.{told}
use Rattle.lq_refined_instances.specs.Views.{instances_view, list_view}
use Rattle.lq_top_judge.proofs.VerdictLemmas.Totals.{all_counted, one_more}
use Rattle.lq_top_judge.proofs.verdict.counting.instance_count.Goals as goal

pub loop-unknown-preserved : goal.loop-unknown-preserved
loop-unknown-preserved c =
    let here = sym c.get.ensures ∙ ap (option_map (λ l. list_view l.now)) c.in-Some.is in (
      one_more (instances_view c.args.instances.now) c.loop-unknown.unknown c.loop-unknown.total c.saturating_add-total.result (list_view c.in-Some.list.now) here
          (c.saturating_add-total.ensures ∙ ap (λ n. told (c.loop-unknown.total + n)) c.len.ensures) c.loop-unknown.invariant.0,
      let told_once = c.saturating_add-total.ensures in omega (arith, told_once),
    )

pub returns : goal.returns
returns c =
    all_counted (instances_view c.args.instances.now) c.loop-unknown.unknown c.loop-unknown.total (let h = c.loop-unknown-test.false in omega arith) c.loop-unknown.invariant.1 c.loop-unknown.invariant.0
