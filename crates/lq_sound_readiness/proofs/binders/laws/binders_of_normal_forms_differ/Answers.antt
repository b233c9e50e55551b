use Rattle.lq_sound_readiness.proofs.BindersLemmas.Differing.{binders_differ}
use Rattle.lq_sound_readiness.proofs.binders.laws.binders_of_normal_forms_differ.Goals as goal

pub returns : goal.returns
returns c = binders_differ c.what_is_read_binds_the_same.ensures c.normal_forms_bind_once.ensures
