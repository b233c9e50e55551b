use Rattle.std.proofs.Common.{length, sym, ap}
use Rattle.lq_refined_instances.specs.Views.{instances_view}
use Rattle.lq_solve_strongest.proofs.WeakenLemmas.Counting.{none_is}
use Rattle.lq_solve_strongest.proofs.weaken.counts.count_at.Goals as goal

pub returns-in-None : goal.returns-in-None
returns-in-None c = sym (ap length (none_is (instances_view c.args.instances.now) c.args.unknown c.in-None.ensures))
