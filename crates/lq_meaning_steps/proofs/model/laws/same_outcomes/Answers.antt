use Rattle.lq_meaning_steps.proofs.ModelLemmas.Agreeing.{same_outcomes, never_stuck_by_meaning, safe_without_faults}
use Rattle.lq_meaning_steps.proofs.model.laws.same_outcomes.Goals as goal

pub returns-clause-same : goal.returns-clause-same
returns-clause-same c = same_outcomes

pub returns-clause-meaning : goal.returns-clause-meaning
returns-clause-meaning c = never_stuck_by_meaning

pub returns-clause-safe : goal.returns-clause-safe
returns-clause-safe c = safe_without_faults
