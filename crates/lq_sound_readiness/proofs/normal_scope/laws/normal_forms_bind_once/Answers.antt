use Rattle.lq_sound_readiness.proofs.NormalScopeLemmas.Once.{bind-once}
use Rattle.lq_sound_readiness.proofs.normal_scope.laws.normal_forms_bind_once.Goals as goal

pub returns : goal.returns
returns c = bind-once c.scoped_bind_once.ensures c.made_names_run.ensures
