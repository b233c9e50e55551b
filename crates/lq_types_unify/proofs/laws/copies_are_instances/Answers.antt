use Rattle.lq_types_unify.proofs.Copied.{instances}
use Rattle.lq_types_unify.proofs.laws.copies_are_instances.Goals as goal

pub returns : goal.returns
returns c = instances
