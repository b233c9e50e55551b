use Rattle.std.proofs.Common.{not, ap, ◌∙◌}
use Rattle.lq_refined_instances.proofs.Walking.{any_symbol}
use Rattle.lq_refined_instances.proofs.listing.is_shown.Goals as goal

pub returns : goal.returns
returns c = ap not (c.contains.ensures ∙ any_symbol c.args.symbol c.args.hidden.now.keys)
