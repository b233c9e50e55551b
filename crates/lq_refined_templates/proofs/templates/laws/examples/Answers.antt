use Rattle.std.proofs.Common.{refl}
use Rattle.lq_refined_templates.proofs.templates.laws.examples.Goals as goal

pub returns-clause-named_argument : goal.returns-clause-named_argument
returns-clause-named_argument c = refl

pub returns-clause-no_names : goal.returns-clause-no_names
returns-clause-no_names c = refl

pub returns-clause-insertion : goal.returns-clause-insertion
returns-clause-insertion c = refl

pub returns-clause-tuple_in_tuple : goal.returns-clause-tuple_in_tuple
returns-clause-tuple_in_tuple c = refl

pub returns-clause-list_of_lists : goal.returns-clause-list_of_lists
returns-clause-list_of_lists c = refl

pub returns-clause-array_of_lists : goal.returns-clause-array_of_lists
returns-clause-array_of_lists c = refl

pub returns-clause-two_parameters : goal.returns-clause-two_parameters
returns-clause-two_parameters c = refl
