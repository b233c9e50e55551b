use Rattle.lq_sound_texts.proofs.InstancesLemmas.Qualifiers.{qualifiers_sorted}
use Rattle.lq_sound_texts.proofs.instances.laws.qualifiers_are_sorted.Goals as goal

pub returns : goal.returns
returns c = qualifiers_sorted c.qualifiers_become.ensures
