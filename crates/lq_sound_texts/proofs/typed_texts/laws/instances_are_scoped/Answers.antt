use Rattle.lq_sound_texts.proofs.TypedTextsLemmas.Instances.{instances_scoped}
use Rattle.lq_sound_texts.proofs.typed_texts.laws.instances_are_scoped.Goals as goal

pub returns : goal.returns
returns c = instances_scoped
