use Rattle.std.proofs.Common.{◌<◌, ◌≤◌, length, arith}
use Rattle.lq_refined_instances.specs.Views.{instances_view}
use Rattle.lq_solve_strongest.proofs.WeakenLemmas.Counting.{counts_all, counts_next}
use Rattle.lq_solve_strongest.proofs.weaken.counts.instance_counts.Goals as goal

pub loop-unknown-preserved : goal.loop-unknown-preserved
loop-unknown-preserved c =
    let lists = instances_view c.args.instances.now in
    let there : c.loop-unknown.unknown < length lists = omega arith in
    counts_next lists c.loop-unknown.unknown c.count_at.result c.loop-unknown.counts.items _ there c.loop-unknown.invariant c.count_at.ensures c.in_ok-push.ensures.items

pub returns : goal.returns
returns c =
    let lists = instances_view c.args.instances.now in
    let past : length lists ≤ c.loop-unknown.unknown = omega arith in
    counts_all lists c.loop-unknown.unknown c.loop-unknown.counts.items past c.loop-unknown.invariant
