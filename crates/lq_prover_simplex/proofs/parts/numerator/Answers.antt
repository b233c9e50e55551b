use Rattle.std.proofs.Common.{sym, ◌∙◌, below_more, pos}
use Rattle.lq_prover_simplex.proofs.Numerators.{part_variable_of}
use Rattle.lq_prover_simplex.proofs.parts.numerator.Goals as goal

pub loop-part-preserved : goal.loop-part-preserved
loop-part-preserved c =
    below_more _ _ c.loop-part.invariant
    (λ e. c.if-part-variable.false (sym (part_variable_of c.args.parts.now c.loop-part.part-index (record { variable = 0; numerator = pos 0 }) c.loop-part-test.true) ∙ e))
