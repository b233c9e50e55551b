use Rattle.lq_types_rules.proofs.TypingsLemmas.Fronts.{fronts_are_rules}
use Rattle.lq_types_rules.proofs.typings.laws.fronts_are_rules.Goals as goal

pub returns : goal.returns
returns c = fronts_are_rules
