use Rattle.lq_types_rules.proofs.TypingsLemmas.Fronts.{front_items_are_rules}
use Rattle.lq_types_rules.proofs.typings.laws.front_items_are_rules.Goals as goal

pub returns : goal.returns
returns c = front_items_are_rules
