use Rattle.lq_sound_readiness.proofs.UniquenessLemmas.Found.{one_note}
use Rattle.lq_sound_readiness.proofs.uniqueness.laws.one_note.Goals as goal

pub returns : goal.returns
returns c = one_note c.one_annotation.ensures c.noted_have_annotations.ensures
