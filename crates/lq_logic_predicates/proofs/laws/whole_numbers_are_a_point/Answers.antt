use Rattle.std.proofs.Common.{true, false}
use Rattle.lq_logic_predicates.proofs.WholePoints.{whole_point, valid_is_true}
use Rattle.lq_logic_predicates.proofs.WholeNumbers.{reading_holds}
use Rattle.lq_logic_predicates.proofs.laws.whole_numbers_are_a_point.Goals as goal

pub returns-clause-holds : goal.returns-clause-holds
returns-clause-holds c = λ m p h. reading_holds m p true h

pub returns-clause-fails : goal.returns-clause-fails
returns-clause-fails c = λ m p h. reading_holds m p false h

pub returns-clause-point : goal.returns-clause-point
returns-clause-point c = λ m i. whole_point m i

pub returns-clause-valid : goal.returns-clause-valid
returns-clause-valid c = λ m i v h. valid_is_true m i v h
