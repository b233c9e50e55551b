use Rattle.lq_sound_readiness.proofs.NormalReadingLemmas.Reading.{items_are}
use Rattle.lq_sound_readiness.proofs.normal_reading.laws.normal_forms_can_be_read.Goals as goal

pub returns : goal.returns
returns c = items_are
