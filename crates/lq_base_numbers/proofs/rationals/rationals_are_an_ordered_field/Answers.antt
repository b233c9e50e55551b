use Rattle.lq_base_numbers.specs.Rationals.OrderedField.{ordered_field, holds_whole_numbers, made_of_fractions}
use Rattle.lq_base_numbers.proofs.rationals.rationals_are_an_ordered_field.Goals as goal

pub returns-clause-field : goal.returns-clause-field
returns-clause-field c = ordered_field

pub returns-clause-whole_numbers : goal.returns-clause-whole_numbers
returns-clause-whole_numbers c = holds_whole_numbers

pub returns-clause-fractions : goal.returns-clause-fractions
returns-clause-fractions c = made_of_fractions
