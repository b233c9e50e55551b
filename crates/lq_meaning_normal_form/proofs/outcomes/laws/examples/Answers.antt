use Rattle.std.proofs.Common.{refl}
use Rattle.lq_meaning_normal_form.proofs.outcomes.laws.examples.Goals as goal

pub returns-clause-reads : goal.returns-clause-reads
returns-clause-reads c = λ p q r s u v. refl

pub returns-clause-nested : goal.returns-clause-nested
returns-clause-nested c = λ p q r s. refl

pub returns-clause-list : goal.returns-clause-list
returns-clause-list c = λ p q r. refl

pub returns-clause-logic : goal.returns-clause-logic
returns-clause-logic c = λ p q r. (refl, refl)

pub returns-clause-other : goal.returns-clause-other
returns-clause-other c = λ p q r. (refl, refl, refl)
