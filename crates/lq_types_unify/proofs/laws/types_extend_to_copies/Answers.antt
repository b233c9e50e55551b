use Rattle.lq_types_unify.proofs.Extending.{extends}
use Rattle.lq_types_unify.proofs.laws.types_extend_to_copies.Goals as goal

pub returns : goal.returns
returns c = extends
