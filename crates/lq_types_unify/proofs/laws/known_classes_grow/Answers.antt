use Rattle.lq_types_unify.proofs.Longer.{known}
use Rattle.lq_types_unify.proofs.laws.known_classes_grow.Goals as goal

pub returns : goal.returns
returns c = known
