use Rattle.std.proofs.Common.{◌≡◌, ◌+◌, drop}
use Rattle.lq_refined_instances.specs.Instances.{told}
use Rattle.lq_refined_instances.specs.Views.{instances_view}
use Rattle.lq_top_judge.specs.Verdict.Counting.{instance_total}
use Rattle.lq_top_judge.proofs.verdict.counting.instance_count.Given as goal

abbrev pub invariant-loop-unknown : goal.invariant-loop-unknown
invariant-loop-unknown l =
    (told (l.total + instance_total (drop l.unknown (instances_view l.instances))) ≡ told (instance_total (instances_view l.instances)))
    × (l.total ≡ told l.total)
