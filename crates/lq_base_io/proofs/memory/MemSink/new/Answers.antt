use Rattle.std.proofs.Common.{arith}
use Rattle.lq_base_io.proofs.Listed.{none_before}
use Rattle.lq_base_io.proofs.memory.MemSink.new.Goals as goal

pub returns-clause-faults : goal.returns-clause-faults
returns-clause-faults c = omega (arith, none_before c.args.failing.items)
