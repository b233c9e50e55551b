use Rattle.lq_sound_scope.proofs.ScalarsLemmas.GeneralExample.{general_scalar}
use Rattle.lq_sound_scope.proofs.scalars.laws.an_example_with_a_general_name_is_scalar.Goals as goal

pub returns : goal.returns
returns c = general_scalar
