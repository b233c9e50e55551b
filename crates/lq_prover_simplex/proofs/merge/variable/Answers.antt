use Rattle.std.proofs.Common.{sym, pos}
use Rattle.lq_prover_simplex.proofs.Numerators.{part_variable_of}
use Rattle.lq_prover_simplex.proofs.merge.variable.Goals as goal

pub returns : goal.returns
returns c = sym (part_variable_of c.args.parts.now c.args.at (record { variable = 0; numerator = pos 0 }) c.requires)
