use Rattle.lq_sound_scope.proofs.OperationsLemmas.Keeping.{kept}
use Rattle.lq_sound_scope.proofs.operations.laws.names_are_kept.Goals as goal

pub returns : goal.returns
returns c = kept
