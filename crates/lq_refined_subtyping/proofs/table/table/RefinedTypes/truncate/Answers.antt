use Rattle.lq_refined_subtyping.proofs.TableLemmas.Entries.{earlier-take, extends-take}
use Rattle.lq_refined_subtyping.proofs.table.table.RefinedTypes.truncate.Goals as goal

pub invariant_of-self : goal.invariant_of-self
invariant_of-self c =
    record { earlier = earlier-take c.args.len c.args.self.now.rows.items c.truncate.new.self.items c.truncate.ensures.items c.args.self.now.earlier }

pub returns-clause-kept : goal.returns-clause-kept
returns-clause-kept c = extends-take c.args.len c.args.self.now.rows.items c.truncate.new.self.items c.truncate.ensures.items
