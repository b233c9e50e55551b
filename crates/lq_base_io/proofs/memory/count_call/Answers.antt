use Rattle.std.proofs.Common.{◌∙◌, sym}
use Rattle.lq_base_io.proofs.Listed.{listed_counts, other_counts}
use Rattle.lq_base_io.proofs.memory.count_call.Goals as goal

pub returns-clause-listed : goal.returns-clause-listed
returns-clause-listed c = λ is. listed_counts c.args.calls.now c.args.listed.now (sym c.contains.ensures.value ∙ is)

pub returns-clause-other : goal.returns-clause-other
returns-clause-other c = λ is. other_counts c.args.calls.now c.args.listed.now (sym c.contains.ensures.value ∙ is)
