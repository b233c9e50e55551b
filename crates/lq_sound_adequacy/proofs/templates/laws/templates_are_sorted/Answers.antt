use Rattle.lq_sound_adequacy.proofs.TemplatesLemmas.Points.{templates_sorted}
use Rattle.lq_sound_adequacy.proofs.templates.laws.templates_are_sorted.Goals as goal

pub returns : goal.returns
returns c = templates_sorted c.templates_are_of_their_types.ensures
