use Rattle.lq_text_resolve.proofs.BindingLemmas.Building.{one_is}
use Rattle.lq_text_resolve.proofs.binding.resolver.is_one.Goals as goal

pub returns : goal.returns
returns c = one_is c.args.count
