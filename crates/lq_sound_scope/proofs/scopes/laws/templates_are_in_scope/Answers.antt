use Rattle.lq_sound_scope.proofs.ScopesLemmas.Reading.{program_read}
use Rattle.lq_sound_scope.proofs.scopes.laws.templates_are_in_scope.Goals as goal

pub returns : goal.returns
returns c = program_read c.templates_are_of_their_types.ensures
