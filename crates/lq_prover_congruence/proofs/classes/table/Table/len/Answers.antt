-- As many entries as the map has.
use Rattle.std.proofs.Common.{◌∙◌, sym, ap, length}
use Rattle.lq_prover_congruence.proofs.ClassesLemmas.Tables.{length-entries}
use Rattle.lq_prover_congruence.proofs.classes.table.Table.len.Goals as goal

pub returns : goal.returns
returns c = c.len.ensures.len ∙ sym (length-entries c.self.inside.entries.entries) ∙ ap length c.self.view_is
