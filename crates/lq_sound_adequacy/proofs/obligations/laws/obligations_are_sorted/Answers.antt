use Rattle.lq_sound_adequacy.proofs.ObligationsLemmas.Programs.{obligations_sorted}
use Rattle.lq_sound_adequacy.proofs.obligations.laws.obligations_are_sorted.Goals as goal

pub returns : goal.returns
returns c = obligations_sorted c.simple_types_are_given.ensures
