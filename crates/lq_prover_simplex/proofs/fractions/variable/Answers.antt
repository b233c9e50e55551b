use Rattle.std.proofs.Common.{sym}
use Rattle.lq_prover_simplex.proofs.Combinations.{variable_of}
use Rattle.lq_prover_simplex.proofs.fractions.variable.Goals as goal

pub returns : goal.returns
returns c = sym (variable_of c.args.entries.now c.args.at c.index-entries-at.result c.requires)
