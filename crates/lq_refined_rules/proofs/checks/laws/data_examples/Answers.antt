use Rattle.std.proofs.Common.{refl}
use Rattle.lq_refined_rules.proofs.ChecksLemmas.Sample.{list_templates, list_typed, list_differs}
use Rattle.lq_refined_rules.proofs.checks.laws.data_examples.Goals as goal

pub returns-clause-tuple : goal.returns-clause-tuple
returns-clause-tuple c = refl

pub returns-clause-tuple_match : goal.returns-clause-tuple_match
returns-clause-tuple_match c = refl

pub returns-clause-list : goal.returns-clause-list
returns-clause-list c = refl

pub returns-clause-typed : goal.returns-clause-typed
returns-clause-typed c = (list_templates, list_typed, list_differs)

pub returns-clause-missing_case : goal.returns-clause-missing_case
returns-clause-missing_case c = refl

pub returns-clause-default : goal.returns-clause-default
returns-clause-default c = refl

pub returns-clause-build : goal.returns-clause-build
returns-clause-build c = refl

pub returns-clause-maps : goal.returns-clause-maps
returns-clause-maps c = refl
