use Rattle.std.proofs.Common.{refl}
use Rattle.lq_refined_templates.proofs.points.laws.examples.Goals as goal

pub returns-clause-sample : goal.returns-clause-sample
returns-clause-sample c = (refl, refl)

pub returns-clause-hiding : goal.returns-clause-hiding
returns-clause-hiding c = (refl, refl)

pub returns-clause-local : goal.returns-clause-local
returns-clause-local c = (refl, refl)

pub returns-clause-direct : goal.returns-clause-direct
returns-clause-direct c = (refl, refl)

pub returns-clause-recursive : goal.returns-clause-recursive
returns-clause-recursive c = (refl, refl)

pub returns-clause-bound : goal.returns-clause-bound
returns-clause-bound c = (refl, refl)
