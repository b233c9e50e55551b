use Rattle.lq_meaning_steps.proofs.ModelLemmas.OtherPlaces.{other_places_dont_count}
use Rattle.lq_meaning_steps.proofs.model.laws.other_places.Goals as goal

pub returns : goal.returns
returns c = other_places_dont_count
