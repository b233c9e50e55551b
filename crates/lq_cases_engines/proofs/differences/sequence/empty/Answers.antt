use Rattle.std.proofs.Common.{sym, subst}
use Rattle.lq_logic_rows.specs.Contradiction.{Tagged}
use Rattle.lq_cases_engines.specs.Differences.Numbered.{AreNumbered}
use Rattle.lq_cases_engines.proofs.differences.sequence.empty.Goals as goal

pub returns-in-Ok-clause-kept : goal.returns-in-Ok-clause-kept
returns-in-Ok-clause-kept c = record {
  numbered = subst (λ (l : Tagged). AreNumbered 0 l) (sym c.in-Ok.ensures.rows) tt;
  limits = c.in-Ok.ensures.limits;
  going = λ h. absurd (cc (h, c.in-Ok.ensures.last));
}
