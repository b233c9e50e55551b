use Rattle.std.proofs.Common.{subst}
use Rattle.lq_prover_simplex.specs.Operations.{IsPastIn}
use Rattle.lq_prover_simplex.specs.Table.{FailsBy}
use Rattle.lq_prover_simplex.specs.Working.{IsWorkOver}
use Rattle.lq_prover_simplex.proofs.tableau.stop_of.Goals as goal

pub returns-in-Past : goal.returns-in-Past
returns-in-Past c = λ terms standing ever h.
    let k : IsPastIn (IsWorkOver terms ever) c.in-Past.past = subst (FailsBy terms c.args.limit standing ever) c.in-Past.is h in k
