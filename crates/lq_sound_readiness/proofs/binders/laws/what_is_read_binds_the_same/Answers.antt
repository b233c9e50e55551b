use Rattle.lq_sound_readiness.proofs.BindersLemmas.Counting.{program_binds}
use Rattle.lq_sound_readiness.proofs.binders.laws.what_is_read_binds_the_same.Goals as goal

pub returns : goal.returns
returns c = program_binds
