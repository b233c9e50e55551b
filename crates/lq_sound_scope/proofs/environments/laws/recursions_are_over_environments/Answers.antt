use Rattle.lq_sound_scope.proofs.EnvironmentsLemmas.Environments.{recursion_over}
use Rattle.lq_sound_scope.proofs.environments.laws.recursions_are_over_environments.Goals as goal

pub returns : goal.returns
returns c = recursion_over c.types_over_names_are_over_them.ensures c.names_are_kept.ensures
