use Rattle.lq_types_rules.proofs.ConstructorsLemmas.Agreed.{agree}
use Rattle.lq_types_rules.proofs.constructors.laws.signatures_agree.Goals as goal

pub returns : goal.returns
returns c = agree
