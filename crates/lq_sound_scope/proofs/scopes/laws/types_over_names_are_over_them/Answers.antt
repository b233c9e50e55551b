use Rattle.lq_sound_scope.proofs.ScopesLemmas.Assigned.{types_over}
use Rattle.lq_sound_scope.proofs.scopes.laws.types_over_names_are_over_them.Goals as goal

pub returns : goal.returns
returns c = types_over
