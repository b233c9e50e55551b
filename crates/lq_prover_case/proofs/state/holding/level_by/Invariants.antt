use Rattle.std.proofs.Common.{◌≡◌, take}
use Rattle.lq_logic_rows.specs.Row.{sum_at}
use Rattle.lq_base_numbers.specs.Fractions.Value.{value_of}
use Rattle.lq_prover_case.proofs.state.holding.level_by.Given as goal

abbrev pub invariant-loop-term : goal.invariant-loop-term
invariant-loop-term g l = value_of l.total ≡ sum_at (g.E.LinearEngine.point l.engine) (take l.term-index l.term-items)
