use Rattle.std.proofs.Common.{not, sym, ap, ◌∙◌}
use Rattle.lq_generate_implications.proofs.WalkLemmas.Views.{template-by-last}
use Rattle.lq_generate_implications.proofs.walk.choosing.has_template.Goals as goal

pub returns : goal.returns
returns c = ap not c.is_fun.ensures ∙ sym (template-by-last c.args.block.now)
