use Rattle.lq_sound_readiness.proofs.TextProgramsLemmas.Once.{ready_prop}
use Rattle.lq_sound_readiness.proofs.text_programs.laws.ready_is_once.Goals as goal

pub returns : goal.returns
returns c = ready_prop
