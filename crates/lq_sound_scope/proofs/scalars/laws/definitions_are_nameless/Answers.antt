use Rattle.lq_sound_scope.proofs.ScalarsLemmas.Reading.{definitions_nameless}
use Rattle.lq_sound_scope.proofs.scalars.laws.definitions_are_nameless.Goals as goal

pub returns : goal.returns
returns c = definitions_nameless c.templates_are_of_their_types.ensures
