use Rattle.lq_sound_scope.proofs.ScalarsLemmas.ListExample.{list_scalar}
use Rattle.lq_sound_scope.proofs.scalars.laws.an_example_with_lists_is_scalar.Goals as goal

pub returns : goal.returns
returns c = list_scalar
