use Rattle.lq_refined_subtyping.proofs.TableLemmas.Numbers.{renumbered-behind}
use Rattle.lq_refined_subtyping.proofs.table.changes.renumbered_behind.Goals as goal

pub returns-in-Some-clause-same : goal.returns-in-Some-clause-same
returns-in-Some-clause-same c =
    renumbered-behind c.args.earlier.now c.args.by c.in-Renumbered.first c.in-Some.both c.in-Renumbered.is c.in-Some.ensures.1
