use Rattle.std.proofs.Common.{◌≡◌, take}
use Rattle.lq_logic_rows.specs.Row.{Valuation, sum_at}
use Rattle.lq_prover_simplex.specs.Lines.{combine, IsLine}
use Rattle.lq_prover_simplex.specs.Systems.{line_at}
use Rattle.lq_prover_simplex.proofs.basis.line_of.Given as goal

abbrev pub invariant-loop-term : goal.invariant-loop-term
invariant-loop-term l = record {
  sum : (x : Valuation) → combine x l.line ≡ sum_at (λ t. combine x (line_at l.lines t)) (take l.term-index l.parts);
  ascends : IsLine l.line;
}
