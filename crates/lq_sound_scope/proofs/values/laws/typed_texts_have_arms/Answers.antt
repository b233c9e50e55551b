use Rattle.lq_sound_scope.proofs.ValuesLemmas.Armed.{typed_armed}
use Rattle.lq_sound_scope.proofs.values.laws.typed_texts_have_arms.Goals as goal

pub returns : goal.returns
returns c = typed_armed c.texts_have_arms.ensures c.normal_forms_have_arms.ensures
