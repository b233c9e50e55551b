use Rattle.lq_types_rules.proofs.TypingsLemmas.Programs.{visits_are_rules}
use Rattle.lq_types_rules.proofs.typings.laws.visits_are_rules.Goals as goal

pub returns : goal.returns
returns c = visits_are_rules
