-- As many numbers as terms that were passed.
use Rattle.std.proofs.Common.{◌≡◌, ◌≤◌, length}
use Rattle.lq_logic_predicates.specs.TableView.{terms_of}
use Rattle.lq_cases_solver.proofs.solutions.checking.numbers_for.Given as goal

abbrev pub invariant-loop-at : goal.invariant-loop-at
invariant-loop-at l = (length l.numbers.items ≡ l.at) × (l.at ≤ length (terms_of l.terms))
