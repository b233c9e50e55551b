use Rattle.std.proofs.Common.{refl}
use Rattle.lq_refined_templates.proofs.points.laws.more_examples.Goals as goal

pub returns-clause-polymorphic : goal.returns-clause-polymorphic
returns-clause-polymorphic c = (refl, refl)

pub returns-clause-list : goal.returns-clause-list
returns-clause-list c = (refl, refl)

pub returns-clause-list_templates : goal.returns-clause-list_templates
returns-clause-list_templates c = refl

pub returns-clause-arms : goal.returns-clause-arms
returns-clause-arms c = (refl, refl)

pub returns-clause-maps : goal.returns-clause-maps
returns-clause-maps c = (refl, refl)
