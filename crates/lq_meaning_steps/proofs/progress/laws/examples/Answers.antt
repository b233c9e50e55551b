use Rattle.lq_meaning_steps.proofs.ProgressLemmas.Samples.{identity_example, array_example, stuck_example, box_example, sum_example, table_example, calculation_example, function_example, choice_example, match_example, element_example, effect_example}
use Rattle.lq_meaning_steps.proofs.progress.laws.examples.Goals as goal

pub returns-clause-identity : goal.returns-clause-identity
returns-clause-identity c = identity_example

pub returns-clause-array : goal.returns-clause-array
returns-clause-array c = array_example

pub returns-clause-stuck : goal.returns-clause-stuck
returns-clause-stuck c = stuck_example

pub returns-clause-boxes : goal.returns-clause-boxes
returns-clause-boxes c = box_example

pub returns-clause-sums : goal.returns-clause-sums
returns-clause-sums c = sum_example

pub returns-clause-table : goal.returns-clause-table
returns-clause-table c = table_example

pub returns-clause-calculations : goal.returns-clause-calculations
returns-clause-calculations c = calculation_example

pub returns-clause-functions : goal.returns-clause-functions
returns-clause-functions c = function_example

pub returns-clause-choices : goal.returns-clause-choices
returns-clause-choices c = choice_example

pub returns-clause-matches : goal.returns-clause-matches
returns-clause-matches c = match_example

pub returns-clause-elements : goal.returns-clause-elements
returns-clause-elements c = element_example

pub returns-clause-effects : goal.returns-clause-effects
returns-clause-effects c = effect_example
