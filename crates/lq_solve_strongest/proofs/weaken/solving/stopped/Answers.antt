use Rattle.std.proofs.Common.{subst}
use Rattle.lq_solve_strongest.specs.Weaken.Stops.{StopsAsking}
use Rattle.lq_solve_strongest.proofs.weaken.solving.stopped.Goals as goal

pub returns-in-Number : goal.returns-in-Number
returns-in-Number c = λ limit I cs g s. (g, subst (StopsAsking limit I cs c.args.at) c.in-Number.is s)

pub returns-in-Gather : goal.returns-in-Gather
returns-in-Gather c = λ limit I cs g s. absurd (subst (StopsAsking limit I cs c.args.at) c.in-Gather.is s)

pub returns-in-Pivots : goal.returns-in-Pivots
returns-in-Pivots c = λ limit I cs g s. (g, subst (StopsAsking limit I cs c.args.at) c.in-Pivots.is s)

pub returns-in-Memory : goal.returns-in-Memory
returns-in-Memory c = λ limit I cs g s. tt
