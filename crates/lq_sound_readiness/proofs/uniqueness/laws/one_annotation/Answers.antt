use Rattle.lq_sound_readiness.proofs.UniquenessLemmas.One.{one_annotation}
use Rattle.lq_sound_readiness.proofs.uniqueness.laws.one_annotation.Goals as goal

pub returns : goal.returns
returns c = one_annotation c.one_inference.ensures c.general_uses_are_defined.ensures
