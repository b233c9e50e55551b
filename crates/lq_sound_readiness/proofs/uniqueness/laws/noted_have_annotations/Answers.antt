use Rattle.lq_sound_readiness.proofs.UniquenessLemmas.Found.{noted_have_annotations}
use Rattle.lq_sound_readiness.proofs.uniqueness.laws.noted_have_annotations.Goals as goal

pub returns : goal.returns
returns c = noted_have_annotations c.noted_are_known.ensures c.general_uses_are_defined.ensures
