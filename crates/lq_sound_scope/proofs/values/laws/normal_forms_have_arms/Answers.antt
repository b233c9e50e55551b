use Rattle.lq_sound_scope.proofs.ValuesLemmas.Armed.{forms_armed}
use Rattle.lq_sound_scope.proofs.values.laws.normal_forms_have_arms.Goals as goal

pub returns : goal.returns
returns c = forms_armed c.programs_are_one_pass.ensures
