use Rattle.std.proofs.Common.{subst}
use Rattle.lq_solve_fixpoint.specs.Weakening.Judging.{StopsAt}
use Rattle.lq_solve_strongest.specs.Weaken.Stops.{MayStop}
use Rattle.lq_solve_strongest.proofs.weaken.solving.stop_of.Goals as goal

pub returns-in-At : goal.returns-in-At
returns-in-At c = λ limit I cs g s.
    let m : MayStop limit I cs c.in-At.at c.in-At.stop = subst (StopsAt (MayStop limit I cs)) c.in-At.is s in c.stopped.ensures limit I cs g (m g)

pub returns-in-Memory : goal.returns-in-Memory
returns-in-Memory c = λ limit I cs g s. tt
