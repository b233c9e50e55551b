use Rattle.std.proofs.Common.{sym}
use Rattle.lq_refined_subtyping.specs.Table.Whole.{count_of}
use Rattle.lq_generate_operations.specs.Basis.Growing.{row-below}
use Rattle.lq_generate_operations.specs.Basis.Names.{bound}
use Rattle.lq_generate_operations.proofs.basis.types.named.Goals as goal

pub returns-in-Some-clause-there : goal.returns-in-Some-clause-there
returns-in-Some-clause-there c =
    row-below (count_of c.args.types.now) (bound c.args.names.now) c.args.name.0 c.in-Some.row (sym c.in-Some.ensures) c.requires
