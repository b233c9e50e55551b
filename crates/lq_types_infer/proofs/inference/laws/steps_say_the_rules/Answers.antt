use Rattle.lq_types_infer.proofs.InferenceLemmas.Fronts.{say}
use Rattle.lq_types_infer.proofs.inference.laws.steps_say_the_rules.Goals as goal

pub returns : goal.returns
returns c = say
