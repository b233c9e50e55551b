use Rattle.lq_sound_programs.proofs.ScenesLemmas.Knowing.{known}
use Rattle.lq_sound_programs.proofs.scenes.laws.measures_are_known.Goals as goal

pub returns : goal.returns
returns c = known c.equations_hold.ensures c.values_have_numbers.ensures
