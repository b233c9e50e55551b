use Rattle.lq_sound_scope.proofs.GeneralUsesLemmas.Reading.{read_use}
use Rattle.lq_sound_scope.proofs.general_uses.laws.read_programs_use_before.Goals as goal

pub returns : goal.returns
returns c = read_use
