use Rattle.std.proofs.Common.{refl}
use Rattle.lq_refined_measures.proofs.values.laws.examples.Goals as goal

pub returns-clause-length : goal.returns-clause-length
returns-clause-length c = refl

pub returns-clause-sum : goal.returns-clause-sum
returns-clause-sum c = refl

pub returns-clause-size : goal.returns-clause-size
returns-clause-size c = refl
