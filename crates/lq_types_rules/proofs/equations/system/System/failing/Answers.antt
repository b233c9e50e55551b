use Rattle.lq_types_rules.proofs.EquationsLemmas.Reading.{failing_read, some_read}
use Rattle.lq_types_rules.proofs.equations.system.System.failing.Goals as goal

pub returns-in-Some-clause-first : goal.returns-in-Some-clause-first
returns-in-Some-clause-first c = failing_read c.args.self.now c.deref.result.now c.in-Some.count c.requires c.deref.ensures.value (rw c.in-Some.is at c.in_ok-count.ensures.first)

pub returns-in-None-clause-none : goal.returns-in-None-clause-none
returns-in-None-clause-none c = some_read c.args.self.now c.deref.result.now c.deref.ensures.value (rw c.in-None.is at c.in_ok-count.ensures.none)
