use Rattle.lq_sound_scope.proofs.GeneralUsesLemmas.Source.{programs_use}
use Rattle.lq_sound_scope.proofs.general_uses.laws.noted_programs_use_before.Goals as goal

pub returns : goal.returns
returns c = programs_use
