use Rattle.lq_sound_adequacy.proofs.ProgramsLemmas.Fixed.{definitions_fixed}
use Rattle.lq_sound_adequacy.proofs.programs.laws.definitions_are_fixed.Goals as goal

pub returns : goal.returns
returns c = definitions_fixed
