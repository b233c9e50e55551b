use Rattle.lq_meaning_steps.proofs.ModelLemmas.Deeper.{means_more}
use Rattle.lq_meaning_steps.proofs.ModelLemmas.UnderEnvironments.{means_alike, means_closed}
use Rattle.lq_meaning_steps.proofs.model.laws.environments.Goals as goal

pub returns-clause-alike : goal.returns-clause-alike
returns-clause-alike c = means_alike

pub returns-clause-closed : goal.returns-clause-closed
returns-clause-closed c = means_closed

pub returns-clause-deeper : goal.returns-clause-deeper
returns-clause-deeper c = means_more
