use Rattle.std.proofs.Common.{refl, sym, ◌∙◌, pos}
use Rattle.lq_prover_simplex.proofs.Numerators.{part_variable_of}
use Rattle.lq_prover_simplex.proofs.merge.head.Goals as goal

pub returns-else-part-sought : goal.returns-else-part-sought
returns-else-part-sought c =
    (refl, λ h e. c.if-part-sought.false (sym (part_variable_of c.args.parts.now c.args.at (record { variable = 0; numerator = pos 0 }) h) ∙ e))
