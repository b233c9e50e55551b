use Rattle.std.proofs.Common.{sym}
use Rattle.lq_text_resolve.proofs.BindingLemmas.Tuples.{spread_other}
use Rattle.lq_text_resolve.proofs.binding.nodes.spread.Goals as goal

pub returns-in_default : goal.returns-in_default
returns-in_default c = sym (spread_other c.args.part c.in_default.not-Tuple)
