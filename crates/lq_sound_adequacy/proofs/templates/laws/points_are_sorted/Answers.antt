use Rattle.lq_sound_adequacy.proofs.TemplatesLemmas.Reading.{points_sorted}
use Rattle.lq_sound_adequacy.proofs.templates.laws.points_are_sorted.Goals as goal

pub returns : goal.returns
returns c = points_sorted
