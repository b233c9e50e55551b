use Rattle.std.proofs.Common.{refl}
use Rattle.lq_refined_rules.proofs.checks.laws.type_examples.Goals as goal

pub returns-clause-triple : goal.returns-clause-triple
returns-clause-triple c = refl

pub returns-clause-nested_tuple : goal.returns-clause-nested_tuple
returns-clause-nested_tuple c = refl

pub returns-clause-tuple_argument : goal.returns-clause-tuple_argument
returns-clause-tuple_argument c = refl

pub returns-clause-array_in_tuple : goal.returns-clause-array_in_tuple
returns-clause-array_in_tuple c = refl

pub returns-clause-function_in_tuple : goal.returns-clause-function_in_tuple
returns-clause-function_in_tuple c = refl

pub returns-clause-nested_array : goal.returns-clause-nested_array
returns-clause-nested_array c = refl

pub returns-clause-truth_array : goal.returns-clause-truth_array
returns-clause-truth_array c = refl

pub returns-clause-polymorphic_array : goal.returns-clause-polymorphic_array
returns-clause-polymorphic_array c = refl

pub returns-clause-some : goal.returns-clause-some
returns-clause-some c = refl

pub returns-clause-none : goal.returns-clause-none
returns-clause-none c = refl

pub returns-clause-no_function : goal.returns-clause-no_function
returns-clause-no_function c = refl

pub returns-clause-unit_list : goal.returns-clause-unit_list
returns-clause-unit_list c = refl

pub returns-clause-order : goal.returns-clause-order
returns-clause-order c = refl

pub returns-clause-otherwise : goal.returns-clause-otherwise
returns-clause-otherwise c = refl

pub returns-clause-match_twice : goal.returns-clause-match_twice
returns-clause-match_twice c = refl

pub returns-clause-matrix : goal.returns-clause-matrix
returns-clause-matrix c = refl

pub returns-clause-nested_map : goal.returns-clause-nested_map
returns-clause-nested_map c = refl
