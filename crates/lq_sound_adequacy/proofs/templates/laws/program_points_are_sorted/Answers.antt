use Rattle.lq_sound_adequacy.proofs.TemplatesLemmas.Reading.{program_sorted}
use Rattle.lq_sound_adequacy.proofs.templates.laws.program_points_are_sorted.Goals as goal

pub returns : goal.returns
returns c = program_sorted
