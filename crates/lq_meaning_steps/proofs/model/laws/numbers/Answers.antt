use Rattle.lq_meaning_steps.proofs.ModelLemmas.WholeNumbers.{have_no_bound, divides_toward_zero}
use Rattle.lq_meaning_steps.proofs.model.laws.numbers.Goals as goal

pub returns-clause-unbounded : goal.returns-clause-unbounded
returns-clause-unbounded c = have_no_bound

pub returns-clause-toward_zero : goal.returns-clause-toward_zero
returns-clause-toward_zero c = divides_toward_zero
