-- The last entry goes.
use Rattle.std.proofs.Common.{arith, ap, length}
use Rattle.lq_prover_congruence.proofs.ClassesLemmas.Tables.{popped, length-entries}
use Rattle.lq_prover_congruence.proofs.classes.table.Table.pop.Goals as goal

pub returns : goal.returns
returns c =
    popped c.self.inside.entries.entries c.pop.new.self.entries c.pop.result c.args.self.now c.self.view_is c.pop.ensures.entries
    (c.pop.ensures.found.1 (omega (arith, length-entries c.self.inside.entries.entries, ap length c.self.view_is)))
