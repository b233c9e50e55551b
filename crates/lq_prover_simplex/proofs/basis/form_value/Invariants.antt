use Rattle.std.proofs.Common.{◌≡◌, take}
use Rattle.lq_base_numbers.specs.Fractions.Value.{value_of}
use Rattle.lq_logic_rows.specs.Row.{sum_at}
use Rattle.lq_logic_rows.specs.Steps.{valuation_of}
use Rattle.lq_prover_simplex.proofs.basis.form_value.Given as goal

abbrev pub invariant-loop-term : goal.invariant-loop-term
invariant-loop-term l = value_of l.total ≡ sum_at (valuation_of l.values) (take l.term-index l.parts)
