use Rattle.lq_types_unify.proofs.Uses.{uses}
use Rattle.lq_types_unify.proofs.laws.uses_are_instances.Goals as goal

pub returns : goal.returns
returns c = uses
