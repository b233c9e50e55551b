use Rattle.lq_types_unify.proofs.Copied.{public}
use Rattle.lq_types_unify.proofs.laws.copies_are_public.Goals as goal

pub returns : goal.returns
returns c = public
