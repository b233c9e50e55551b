use Rattle.lq_types_rules.proofs.TypingsLemmas.Samples.{examples}
use Rattle.lq_types_rules.proofs.typings.laws.examples.Goals as goal

pub returns : goal.returns
returns c = examples
