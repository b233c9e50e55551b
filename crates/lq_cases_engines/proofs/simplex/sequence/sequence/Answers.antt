use Rattle.std.proofs.Common.{◌∙◌, length, ap}
use Rattle.lq_cases_engines.proofs.simplex.sequence.sequence.Goals as goal

pub loop-preserved : goal.loop-preserved
loop-preserved c = record {
  kept = c.in_ok-ask.ensures.kept;
  count = ap length c.ask.ensures.rows ∙ c.in_ok-step.ensures.count;
  taken = c.in_ok-step.ensures.taken;
}
