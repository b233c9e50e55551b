use Rattle.lq_sound_adequacy.proofs.ReflexivityLemmas.Reflexive.{reflexive}
use Rattle.lq_sound_adequacy.proofs.reflexivity.laws.subtyping_is_reflexive.Goals as goal

pub returns : goal.returns
returns c = reflexive
