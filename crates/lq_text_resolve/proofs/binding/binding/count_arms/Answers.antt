use Rattle.std.proofs.Common.{◌∙◌}
use Rattle.lq_text_resolve.proofs.BindingLemmas.Building.{arms_count}
use Rattle.lq_text_resolve.proofs.binding.binding.count_arms.Goals as goal

pub returns : goal.returns
returns c = c.len.ensures ∙ arms_count c.args.arms.now
