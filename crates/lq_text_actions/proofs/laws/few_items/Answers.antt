use Rattle.std.proofs.Common.{refl}
use Rattle.lq_text_actions.specs.Trees.{nowhere, nothing_made}
use Rattle.lq_text_actions.proofs.Counting.{few_items}
use Rattle.lq_text_actions.proofs.laws.few_items.Goals as goal

pub returns : goal.returns
returns c = λ ls es is one. few_items es ls nowhere nothing_made one.nodes is refl one.makes
