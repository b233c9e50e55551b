use Rattle.lq_sound_scope.proofs.SortsLemmas.Speaking.{instances_speak}
use Rattle.lq_sound_scope.proofs.sorts.laws.instances_speak_at_sorts.Goals as goal

pub returns : goal.returns
returns c = instances_speak
