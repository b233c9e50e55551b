use Rattle.lq_meaning_steps.proofs.ModelLemmas.States.{one_outcome, safe_by_steps}
use Rattle.lq_meaning_steps.proofs.model.laws.one_outcome.Goals as goal

pub returns-clause-one : goal.returns-clause-one
returns-clause-one c = one_outcome

pub returns-clause-safe : goal.returns-clause-safe
returns-clause-safe c = safe_by_steps
