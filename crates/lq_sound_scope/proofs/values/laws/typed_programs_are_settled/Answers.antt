use Rattle.lq_sound_scope.proofs.ValuesLemmas.Closing.{programs_settled}
use Rattle.lq_sound_scope.proofs.values.laws.typed_programs_are_settled.Goals as goal

pub returns : goal.returns
returns c = programs_settled c.normal_forms_of_values_are_values.ensures c.scoped_items_own_slots.ensures c.programs_are_one_pass.ensures
