use Rattle.lq_sound_scope.proofs.MatricesLemmas.Variables.{no_variable_entries}
use Rattle.lq_sound_scope.proofs.matrices.laws.variables_have_no_entries.Goals as goal

pub returns : goal.returns
returns c = no_variable_entries c.templates_are_of_their_types.ensures
