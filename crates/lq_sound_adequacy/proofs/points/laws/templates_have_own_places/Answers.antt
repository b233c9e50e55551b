use Rattle.lq_sound_adequacy.proofs.PointsLemmas.Templates.{template_places}
use Rattle.lq_sound_adequacy.proofs.points.laws.templates_have_own_places.Goals as goal

pub returns : goal.returns
returns c = template_places
