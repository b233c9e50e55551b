use Rattle.std.proofs.Common.{refl}
use Rattle.lq_refined_rules.proofs.ChecksLemmas.Sample.{sample_templates, sample_typed, sample_differs}
use Rattle.lq_refined_rules.proofs.checks.laws.examples.Goals as goal

pub returns-clause-sample : goal.returns-clause-sample
returns-clause-sample c = refl

pub returns-clause-typed : goal.returns-clause-typed
returns-clause-typed c = (sample_templates, sample_typed, sample_differs)

pub returns-clause-read : goal.returns-clause-read
returns-clause-read c = refl

pub returns-clause-alias : goal.returns-clause-alias
returns-clause-alias c = refl

pub returns-clause-condition : goal.returns-clause-condition
returns-clause-condition c = refl

pub returns-clause-quotient : goal.returns-clause-quotient
returns-clause-quotient c = refl

pub returns-clause-remainder : goal.returns-clause-remainder
returns-clause-remainder c = refl

pub returns-clause-assert_false : goal.returns-clause-assert_false
returns-clause-assert_false c = refl

pub returns-clause-polymorphic : goal.returns-clause-polymorphic
returns-clause-polymorphic c = refl

pub returns-clause-higher_order : goal.returns-clause-higher_order
returns-clause-higher_order c = refl
