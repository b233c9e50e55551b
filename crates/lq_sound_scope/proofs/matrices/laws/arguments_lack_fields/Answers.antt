use Rattle.lq_sound_scope.proofs.MatricesLemmas.Matrices.{arguments_lack}
use Rattle.lq_sound_scope.proofs.matrices.laws.arguments_lack_fields.Goals as goal

pub returns : goal.returns
returns c = arguments_lack
