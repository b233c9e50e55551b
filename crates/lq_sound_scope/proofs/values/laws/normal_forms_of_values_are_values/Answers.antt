use Rattle.lq_sound_scope.proofs.ValuesLemmas.Values.{values_are}
use Rattle.lq_sound_scope.proofs.values.laws.normal_forms_of_values_are_values.Goals as goal

pub returns : goal.returns
returns c = values_are
