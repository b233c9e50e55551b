use Rattle.std.proofs.Common.{◌∙◌}
use Rattle.lq_text_resolve.proofs.BindingLemmas.Building.{parts_count}
use Rattle.lq_text_resolve.proofs.binding.pass.count_parts.Goals as goal

pub returns : goal.returns
returns c = c.len.ensures ∙ parts_count c.args.parts.now
