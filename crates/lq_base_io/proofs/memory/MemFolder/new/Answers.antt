use Rattle.lq_base_io.proofs.Listed.{none_before}
use Rattle.lq_base_io.proofs.memory.MemFolder.new.Goals as goal

pub returns-clause-failures : goal.returns-clause-failures
returns-clause-failures c = none_before c.args.failing.items
