use Rattle.std.proofs.Common.{refl}
use Rattle.lq_refined_rules.proofs.checks.laws.number_examples.Goals as goal

pub returns-clause-sum : goal.returns-clause-sum
returns-clause-sum c = refl

pub returns-clause-partial_call : goal.returns-clause-partial_call
returns-clause-partial_call c = refl

pub returns-clause-guard : goal.returns-clause-guard
returns-clause-guard c = refl

pub returns-clause-nested_guard : goal.returns-clause-nested_guard
returns-clause-nested_guard c = refl

pub returns-clause-assert_variable : goal.returns-clause-assert_variable
returns-clause-assert_variable c = refl

pub returns-clause-truth_call : goal.returns-clause-truth_call
returns-clause-truth_call c = refl

pub returns-clause-truth_guard : goal.returns-clause-truth_guard
returns-clause-truth_guard c = refl

pub returns-clause-quotient : goal.returns-clause-quotient
returns-clause-quotient c = refl

pub returns-clause-zero_divisor : goal.returns-clause-zero_divisor
returns-clause-zero_divisor c = refl

pub returns-clause-any : goal.returns-clause-any
returns-clause-any c = refl

pub returns-clause-known_part : goal.returns-clause-known_part
returns-clause-known_part c = refl

pub returns-clause-known : goal.returns-clause-known
returns-clause-known c = refl

pub returns-clause-read_of : goal.returns-clause-read_of
returns-clause-read_of c = refl

pub returns-clause-own_block : goal.returns-clause-own_block
returns-clause-own_block c = refl

pub returns-clause-kept_name : goal.returns-clause-kept_name
returns-clause-kept_name c = refl
