use Rattle.lq_sound_readiness.proofs.UsesLemmas.Normal.{uses_fit}
use Rattle.lq_sound_readiness.proofs.uses.laws.normal_uses_fit.Goals as goal

pub returns : goal.returns
returns c = uses_fit c.normal_forms_are_scoped.ensures c.made_names_run.ensures
