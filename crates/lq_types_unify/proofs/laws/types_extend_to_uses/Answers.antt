use Rattle.lq_types_unify.proofs.Copied.{extend}
use Rattle.lq_types_unify.proofs.laws.types_extend_to_uses.Goals as goal

pub returns : goal.returns
returns c = extend
