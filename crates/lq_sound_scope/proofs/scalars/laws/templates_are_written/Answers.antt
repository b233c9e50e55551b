use Rattle.lq_sound_scope.proofs.ScalarsLemmas.Reading.{templates_written}
use Rattle.lq_sound_scope.proofs.scalars.laws.templates_are_written.Goals as goal

pub returns : goal.returns
returns c = templates_written c.templates_are_of_their_types.ensures
