use Rattle.lq_sound_adequacy.proofs.ImplicationsLemmas.Predicates.{predicates_sorted}
use Rattle.lq_sound_adequacy.proofs.implications.laws.predicates_are_sorted.Goals as goal

pub returns : goal.returns
returns c = predicates_sorted c.parts_are_sorted.ensures
