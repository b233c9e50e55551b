use Rattle.std.proofs.Common.{refl}
use Rattle.std.specs.Fmt.{digits}
use Rattle.lq_top_answers.proofs.type_text.laws.examples.Goals as goal

pub returns-clause-find : goal.returns-clause-find
unfolding digits
returns-clause-find c = refl

pub returns-clause-insert : goal.returns-clause-insert
unfolding digits
returns-clause-insert c = refl

pub returns-clause-letters : goal.returns-clause-letters
unfolding digits
returns-clause-letters c = refl

pub returns-clause-test : goal.returns-clause-test
unfolding digits
returns-clause-test c = refl

pub returns-clause-arguments : goal.returns-clause-arguments
returns-clause-arguments c = refl

pub returns-clause-matrix : goal.returns-clause-matrix
unfolding digits
returns-clause-matrix c = refl
