use Rattle.lq_sound_texts.proofs.InstancesLemmas.Instances.{instances_sorted}
use Rattle.lq_sound_texts.proofs.instances.laws.instances_are_well_sorted.Goals as goal

pub returns : goal.returns
returns c = instances_sorted
