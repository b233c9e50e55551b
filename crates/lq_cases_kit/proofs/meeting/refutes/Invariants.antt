use Rattle.std.proofs.Common.{◌≡◌}
use Rattle.lq_logic_predicates.specs.ClosedImplication.{terms_in}
use Rattle.lq_logic_predicates.specs.PredView.{implication_of}
use Rattle.lq_logic_predicates.specs.TableView.{terms_of}
use Rattle.lq_cases_kit.proofs.meeting.refutes.Given as goal

abbrev pub invariant-loop-pred : goal.invariant-loop-pred
invariant-loop-pred l = terms_of l.table ≡ terms_in (implication_of l.fn.implication)
