use Rattle.lq_sound_texts.proofs.InstancesLemmas.Instances.{instances_speak}
use Rattle.lq_sound_texts.proofs.instances.laws.instances_are_sorted.Goals as goal

pub returns : goal.returns
returns c = instances_speak c.instances_speak_at_sorts.ensures
