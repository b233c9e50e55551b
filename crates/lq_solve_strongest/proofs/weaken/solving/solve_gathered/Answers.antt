use Rattle.std.proofs.Common.{subst, sym}
use Rattle.lq_solve_fixpoint.specs.Questions.Assigned.{constraints_of, instances_in}
use Rattle.lq_solve_fixpoint.specs.Weakening.Index.{AreCovered}
use Rattle.lq_solve_strongest.proofs.weaken.solving.solve_gathered.Goals as goal

pub solve-requires-clause-covered : goal.solve-requires-clause-covered
solve-requires-clause-covered c = subst (AreCovered (constraints_of c.args.implications.now)) (sym c.deref-2.ensures.value) c.in-Ok-unknown_spans.ensures

pub returns-clause-stop : goal.returns-clause-stop
returns-clause-stop c =
    c.stop_of.ensures c.args.limit (instances_in c.args.instances.now) (constraints_of c.args.implications.now) c.requires
    c.in-Err.ensures.stop
