-- The counts so far.
use Rattle.std.proofs.Common.{◌≡◌, length, map, take}
use Rattle.lq_refined_instances.specs.Views.{instances_view}
use Rattle.lq_solve_strongest.proofs.weaken.counts.instance_counts.Given as goal

abbrev pub invariant-loop-unknown : goal.invariant-loop-unknown
invariant-loop-unknown l = l.counts.items ≡ map length (take l.unknown (instances_view l.instances))
