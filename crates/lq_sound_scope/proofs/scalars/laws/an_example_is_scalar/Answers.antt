use Rattle.lq_sound_scope.proofs.ScalarsLemmas.Example.{example_scalar}
use Rattle.lq_sound_scope.proofs.scalars.laws.an_example_is_scalar.Goals as goal

pub returns : goal.returns
returns c = example_scalar
