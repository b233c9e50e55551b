use Rattle.lq_meaning_steps.proofs.ModelLemmas.Adequate.{adequate}
use Rattle.lq_meaning_steps.proofs.ModelLemmas.Complete.{complete}
use Rattle.lq_meaning_steps.proofs.model.laws.adequacy.Goals as goal

pub returns-clause-there : goal.returns-clause-there
returns-clause-there c = adequate

pub returns-clause-back : goal.returns-clause-back
returns-clause-back c = complete
