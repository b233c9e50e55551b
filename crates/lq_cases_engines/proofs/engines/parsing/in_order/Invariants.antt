use Rattle.std.proofs.Common.{length}
use Rattle.lq_cases_engines.proofs.engines.parsing.in_order.Given as goal

abbrev pub decreases-loop-pred : goal.decreases-loop-pred
decreases-loop-pred l = length l.preds.items
