use Rattle.std.proofs.Common.{refl}
use Rattle.lq_refined_rules.proofs.checks.laws.block_examples.Goals as goal

pub returns-clause-inner_function : goal.returns-clause-inner_function
returns-clause-inner_function c = refl

pub returns-clause-inner_recursion : goal.returns-clause-inner_recursion
returns-clause-inner_recursion c = refl

pub returns-clause-bound_match : goal.returns-clause-bound_match
returns-clause-bound_match c = refl

pub returns-clause-truth : goal.returns-clause-truth
returns-clause-truth c = refl

pub returns-clause-number_match : goal.returns-clause-number_match
returns-clause-number_match c = refl

pub returns-clause-unit : goal.returns-clause-unit
returns-clause-unit c = refl
