use Rattle.std.proofs.Common.{◌≡◌, ◌≢◌}
use Rattle.lq_logic_rows.specs.Answers.{Stopped}
use Rattle.lq_cases_engines.specs.Engines.Rows.{AreByPlace, StandBehind}
use Rattle.lq_cases_engines.proofs.engines.engines.take_rows.Given as goal

abbrev pub invariant-loop-row : goal.invariant-loop-row
invariant-loop-row g l = record {
  limits : g.E.LinearEngine.limits l.engine ≡ g.E.LinearEngine.limits l.fn.engine;
  placed : AreByPlace (g.E.LinearEngine.standing l.engine);
  behind : StandBehind (g.E.LinearEngine.standing l.fn.engine) (g.E.LinearEngine.standing l.engine);
  going : g.E.LinearEngine.last l.engine ≢ Stopped;
}
