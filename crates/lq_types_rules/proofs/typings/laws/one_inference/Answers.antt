use Rattle.lq_types_rules.proofs.TypingsLemmas.OneAnswer.{one_inference}
use Rattle.lq_types_rules.proofs.typings.laws.one_inference.Goals as goal

pub returns : goal.returns
returns c = one_inference
