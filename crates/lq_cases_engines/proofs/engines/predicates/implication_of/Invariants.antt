use Rattle.std.proofs.Common.{length}
use Rattle.lq_cases_engines.proofs.engines.predicates.implication_of.Given as goal

abbrev pub decreases-loop-next : goal.decreases-loop-next
decreases-loop-next l = length l.preds.items
