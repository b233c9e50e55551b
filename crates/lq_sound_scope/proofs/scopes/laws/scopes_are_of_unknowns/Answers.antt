use Rattle.lq_sound_scope.proofs.ScopesLemmas.Points.{scopes_same}
use Rattle.lq_sound_scope.proofs.scopes.laws.scopes_are_of_unknowns.Goals as goal

pub returns : goal.returns
returns c = scopes_same
